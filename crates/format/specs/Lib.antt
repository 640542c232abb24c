pub mod Faults
pub mod Commands
pub mod Reader
pub mod Lines
