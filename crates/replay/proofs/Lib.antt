pub mod Reaching
pub mod Restarting
pub mod Lowest
pub mod Replaying
pub mod Adding
