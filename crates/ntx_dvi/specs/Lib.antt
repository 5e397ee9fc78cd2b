-- the operations of a file
pub mod Operation
-- what operations leave for later ones
pub mod Progress
-- the bytes of each operation
pub mod Bytes
-- the bytes of a whole file
pub mod File
-- the fonts of a file
pub mod Fonts
-- a limit on the file's length
pub mod Output
-- the writer, and what one operation does to it
pub mod Writer
-- several operations
pub mod Written
-- how a contract sees the part of the file that a writer keeps
pub mod PartView
