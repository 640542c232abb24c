-- what follows of any logger
pub mod Counting
pub mod Covering
pub mod Growing
pub mod Crashing
pub mod Running
pub mod Sources
pub mod Meeting
-- the program's values
pub mod Bits
