-- what it means if a run refuses the words
pub mod Feeds
