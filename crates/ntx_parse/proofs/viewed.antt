-- Proofs that readings of words that differ after some word agree up to there.
pub mod Blocks
pub mod DeepNames
pub mod Deeper
pub mod Expressions
pub mod Lists
pub mod Local
pub mod Names
pub mod Prefixes
pub mod Scripts
pub mod Statements
pub mod Tables
pub mod Views
