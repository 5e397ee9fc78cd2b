-- the natural size of a vertical list, and the glue between two boxes
pub mod Vertical
-- the highest order of glue with a total
pub mod Totals
-- how the glue of a box is set
pub mod GlueSet
-- glue in output
pub mod Output
-- packing, as a step of a heap
pub mod Pack
-- what can be made into a box
pub mod Made
-- laws of all that
pub mod Laws
