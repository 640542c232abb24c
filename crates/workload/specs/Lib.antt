pub mod Machine
pub mod Body
pub mod Ledger
pub mod Spacing
pub mod Sums
