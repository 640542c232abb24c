pub mod Exact
pub mod Examples
pub mod Run
pub mod Course
pub mod Choice
pub mod Standing
