-- what private calls say among themselves
pub mod Lines
pub mod StoreCalls
pub mod Prints
pub mod Pieces
pub mod Moves
