-- what each kind of node has
pub mod FieldTable
pub mod Fields
-- a heap, and what each call does to it
pub mod Heap
pub mod Steps
pub mod Writing
pub mod Passes
-- walks through its lists
pub mod Walk
pub mod WalkLaws
-- what walks do from nodes that are visited already
pub mod Walker
-- a heap that keeps each node as a record
pub mod Plain
pub mod Table
-- what private calls say among themselves
pub mod inner
