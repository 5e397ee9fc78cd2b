-- why a run stops: status, place and fault line
pub mod StopReason
-- a whole run as a function of words and bytes
pub mod Run
-- the outside of a run, and what is read and written
pub mod Outside
-- the promise of `run_over` and `run`
pub mod Promise
-- what private calls say among themselves; no public promise cites it
pub mod inner
