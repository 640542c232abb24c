pub mod Turns
pub mod Placing
pub mod Entries
