-- how far from its corner the marks of a page can be
pub mod Reach
-- what calls say that put pieces together
pub mod Adding
-- refusals of the calls that `ship` makes
pub mod Refusals
