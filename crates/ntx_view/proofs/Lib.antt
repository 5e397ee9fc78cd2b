pub mod Counts
pub mod Lists
pub mod Measures
pub mod Sizes
