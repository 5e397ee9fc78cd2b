-- which variable a name is
pub mod Scopes
-- what code a script has
pub mod HasCode
-- where a script has too many local variables
pub mod Limit
-- what the resolver answers
pub mod Resolved
-- what private calls say among themselves
pub mod inner
