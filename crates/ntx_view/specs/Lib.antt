-- the natural size of a horizontal list
pub mod Natural
-- lists of nodes as items
pub mod View
-- how large the sizes of a list are together
pub mod Bounds
-- and each by itself
pub mod Measured
