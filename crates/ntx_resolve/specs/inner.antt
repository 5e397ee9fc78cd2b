-- what private calls say among themselves
pub mod Resolves
pub mod Blocks
pub mod Names
pub mod Allows
pub mod Closed
pub mod Counted
