-- What private calls say among themselves. No contract of a public call cites these definitions.
-- parts of a machine
pub mod Parts
