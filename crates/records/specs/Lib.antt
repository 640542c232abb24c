pub mod View
pub mod Index
