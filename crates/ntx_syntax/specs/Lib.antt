-- the classes of bytes
pub mod Bytes
-- the terminals, with the tables of keywords and symbols
pub mod Terminals
-- what numerals and texts represent
pub mod Values
-- what bytes spell that stand alone
pub mod Pieces
-- the tokens of a script, where it is refused, and its laws
pub mod Lexes
-- the names of the reasons
pub mod Why
-- what private calls say among themselves
pub mod inner
