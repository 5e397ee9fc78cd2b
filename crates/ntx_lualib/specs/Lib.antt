-- arguments, and what is done with them
pub mod Arguments
pub mod Shown
pub mod Strings
pub mod Formats
pub mod Lists
pub mod Numbers
pub mod Walks
-- printed bytes, and each function of the library
pub mod Output
pub mod Library
pub mod inner
