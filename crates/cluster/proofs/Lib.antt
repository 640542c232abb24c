pub mod Citing
pub mod Counting
