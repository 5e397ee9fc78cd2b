-- the number of each status
pub mod Number
-- whether a command line names fonts
pub mod Fonts
