-- a pattern, and the word that writes it
pub mod Pattern
-- a file of patterns
pub mod File
-- the greatest digits that patterns have for the same symbols
pub mod Table
-- the points at which a word may be divided
pub mod Points
-- the places of a node's children
pub mod Places
-- the table of patterns as they are kept
pub mod Kept
-- what private calls say among themselves; no public contract cites it
pub mod inner
