-- tables to which patterns are added
pub mod Adding
-- nodes whose places name their children
pub mod Packed
