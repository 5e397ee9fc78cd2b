-- What private calls say among themselves. No contract of a public call cites these definitions.
-- how words are read from the left, one phrase after the other
pub mod Reading
-- parts of readings that the program has as functions of their own
pub mod Steps
-- what a parser has before it
pub mod Input
pub mod Cursor
-- what a reading function ensures
pub mod Reads
-- how deep the calls may be inside one another
pub mod Room
-- what the rules ask of the readers that they are given
pub mod Nests
