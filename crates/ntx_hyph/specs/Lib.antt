-- words and their gaps
pub mod Words
-- the pass over a list
pub mod Hyphenation
-- what the pass leaves
pub mod Laws
-- what private calls say among themselves
pub mod inner
