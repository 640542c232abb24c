pub mod Networks
pub mod Feeding
