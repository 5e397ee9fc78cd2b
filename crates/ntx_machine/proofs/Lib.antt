-- one call is one step
pub mod Steps
-- the first state of a course
pub mod Begins
-- the first state of the parts of a page's course
pub mod BeginsPages
-- how calls that make a page end
pub mod Pages
-- how building goes on, and where it stops
pub mod Building
-- shipping a page
pub mod Shipping
-- how calls of a machine end
pub mod Calls
-- how the end of a job ends
pub mod Endings
-- what callers know
pub mod Jobs
-- the file of a job that ended well
pub mod Ended
