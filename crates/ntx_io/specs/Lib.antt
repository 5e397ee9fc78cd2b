-- sources and sinks as contracts see them, and what one read or write does to them
pub mod Outside
-- reading to the end, and writing a whole text
pub mod Whole
-- the sources and sinks over memory
pub mod Memory
-- feeds over memory, and the names of feeds over files
pub mod Feed
-- what the adapters over files pass on
pub mod File
