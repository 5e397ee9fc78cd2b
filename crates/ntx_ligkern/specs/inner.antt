pub mod Sound
pub mod Cursors
pub mod Chores
