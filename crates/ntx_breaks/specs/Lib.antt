-- what a break costs
pub mod Penalties
-- what a line costs
pub mod Cost
-- the passes over a paragraph
pub mod Passes
-- the states of a pass
pub mod States
-- how states are made at a place
pub mod Making
-- the breaks that are chosen
pub mod Chosen
-- each paragraph has breaks
pub mod Laws
-- for private calls: bounds within which the numbers of states stay
pub mod inner
