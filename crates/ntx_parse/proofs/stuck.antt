-- Proofs that where a reading stops, the words cannot go on.
pub mod Answers
pub mod Assignments
pub mod Blocks
pub mod Empty
pub mod Expressions
pub mod FirstWords
pub mod Lists
pub mod Phrases
pub mod Prefixes
pub mod Scripts
pub mod Statements
pub mod Tables
pub mod Words
