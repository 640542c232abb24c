pub mod Blank
pub mod Filing
pub mod Tables
