-- the rules of both loggers
pub mod Places
pub mod Pessimistic
pub mod FamilyBased
pub mod FamilyInvariant
pub mod FamilyViews
-- why they keep the clauses of a logger: the laws of their implementations cite these
pub mod Stably
pub mod Families
pub mod Ordered
pub mod Noting
pub mod Carrying
pub mod Spreading
pub mod Rejoining
-- a small run
pub mod WorkedExample
