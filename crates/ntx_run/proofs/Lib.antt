-- what sinks take
pub mod Sinks
-- carrying out the steps of a job
pub mod Carrying
-- what a machine does with a job
pub mod Machines
-- the moments of a run
pub mod Moments
-- words and feeds' names that are accepted
pub mod Fitting
-- what was read of the fonts
pub mod FontReading
-- one font more
pub mod FontSteps
-- what was read of the inputs
pub mod Reading
-- how a run ends, from what stands before its last line
pub mod Endings
-- how a run ends that broke off
pub mod Breaking
-- the ways in which a run ends before a machine is made
pub mod Cases
-- the ways in which a run ends after that
pub mod JobCases
