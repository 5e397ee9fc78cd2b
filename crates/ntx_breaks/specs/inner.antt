-- The definitions of private calls. Contracts of public calls cite none of them.
-- how great the numbers of states can be
pub mod Bounds
-- what is known of a pass between two places
pub mod Search
