pub mod Courses
pub mod Openings
pub mod Turns
pub mod Exactly
pub mod Choices
