pub mod Tables
pub mod Turns
pub mod Floats
pub mod Steady
