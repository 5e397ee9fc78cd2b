-- what one word is
pub mod Kind
-- the option's value and the paths that words give
pub mod Parts
-- the same, by the order in which the words are written
pub mod Form
-- a number of steps or a size
pub mod Number
-- a font and its size
pub mod Font
-- the whole command line: `command_line`
pub mod CommandLine
-- a `Words` as such a command line
pub mod View
-- for private calls: what the crate `clap` reads
pub mod inner
