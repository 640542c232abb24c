-- what a logger is
pub mod Meaning
pub mod Clauses
pub mod Operation
-- what follows of any logger
pub mod Events
pub mod Invariant
pub mod Reached
pub mod Theorems
-- the program's values
pub mod Sources
pub mod HostSets
