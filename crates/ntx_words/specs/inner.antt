-- The definitions of private calls. Contracts of public calls cite none of them.
-- what `clap` is told and what it finds
pub mod Clap
-- references and tuples as the definitions have them
pub mod Views
