-- glyphs and their pairs
pub mod Glyphs
-- the nodes of a list
pub mod Along
-- kerns
pub mod Kerns
pub mod Kerning
-- ligatures
pub mod Ligatures
pub mod Ligaturing
-- what private calls say among themselves
pub mod inner
