-- values, and tables of them
pub mod Value
pub mod Table
-- a store, and what each call does to it
pub mod Texts
pub mod State
pub mod Steps
-- what private calls say among themselves
pub mod inner
