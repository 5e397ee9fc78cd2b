-- the parameters: their names and ranges
pub mod Parameters
-- what they are set to, and their defaults
pub mod Settings
-- the settings that a `Params` holds
pub mod ParamsView
-- items in range
pub mod Items
-- sums over items: natural width, stretch and shrink
pub mod Sums
