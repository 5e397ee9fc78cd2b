-- What private calls say among themselves. No contract of a public call cites these definitions.
-- the piece at the beginning of bytes, and how its end is found
pub mod Front
