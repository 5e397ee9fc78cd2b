-- the words of a script
pub mod Words
-- which words spell which tree
pub mod Grammar
-- where a script is refused, and why
pub mod Faults
-- what holds of every script
pub mod Laws
-- what private calls say among themselves
pub mod inner
