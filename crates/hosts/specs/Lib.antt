pub mod View
pub mod Feed
