-- What private calls say among themselves. No contract of a public call cites these definitions.
-- words, and the feeds beside them
pub mod Words
-- the parts of a run
pub mod Parts
