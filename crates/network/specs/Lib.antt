pub mod Checks
pub mod Host
pub mod Network
pub mod Run
-- what is true of runs
pub mod Past
pub mod World
pub mod Theorems
pub mod Relay
