-- the ends of lists
pub mod Ends
-- what the lines are made of
pub mod Parts
-- steps of a line that set fields and make nodes
pub mod Making
-- the end of a line, at its break
pub mod LineEnd
-- the glue at both sides of a line
pub mod Skips
-- the box of a line
pub mod LineBox
-- the vertical list: glue and penalties between lines
pub mod Above
-- what private calls say among themselves
pub mod inner
-- the whole pass
pub mod Lines
