-- Proofs that each reading ends.
pub mod Answers
pub mod Phrases
pub mod Script
