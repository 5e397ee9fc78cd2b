-- Proofs how the calls of the program read.
pub mod Answers
pub mod Levels
pub mod Words
