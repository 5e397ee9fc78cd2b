-- tests and tables over the numbers below a bound
pub mod Each
-- a file as numbers and words
pub mod Words
-- the lengths at its beginning, and where each table begins
pub mod Layout
-- a fix_word times a size
pub mod Scaling
-- what can be wrong with a file
pub mod Faults
-- the printed names of the faults
pub mod FaultNames
-- the font of a file, and what every font keeps
pub mod Font
