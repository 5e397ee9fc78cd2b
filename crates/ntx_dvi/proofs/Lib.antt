-- what the output appends is a step of the writer
pub mod Appended
-- the bytes that end a file
pub mod Ending
-- several operations, one after another
pub mod Writing
-- the bytes of a file whose operations were all written
pub mod FileLemmas
-- the fonts of a file
pub mod FontsLemmas
