-- Proofs that words which derive are read: what readings come to, and each phrase.
pub mod Begins
pub mod Blocks
pub mod Comes
pub mod Expressions
pub mod Follows
pub mod Forms
pub mod Kinds
pub mod Named
pub mod Names
pub mod Operators
pub mod Phrases
pub mod Prefixes
pub mod Scripts
pub mod Starts
pub mod Statements
pub mod Stats
pub mod Tables
