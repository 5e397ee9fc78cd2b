-- Proofs that what is read derives.
pub mod Answers
pub mod Assignments
pub mod Blocks
pub mod Expressions
pub mod Lists
pub mod Phrases
pub mod Prefixes
pub mod Scripts
pub mod Statements
pub mod Tables
