-- the state of a machine, and single steps
pub mod State
-- the nodes that a machine makes
pub mod Nodes
-- building a box
pub mod Build
-- the page
pub mod Page
-- writing pages
pub mod Shipout
-- a job as its steps
pub mod Job
-- a machine as its callers see it
pub mod Machine
-- how contracts see both
pub mod Seen
-- names of troubles and phases
pub mod Names
-- what private calls say among themselves
pub mod inner
