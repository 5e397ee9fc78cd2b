-- where the marks of a page stand
pub mod Placed
-- pieces that can be drawn
pub mod Drawable
-- what is written of a page
pub mod Operations
-- what shipping a page does
pub mod Shipping
-- what private calls say among themselves
pub mod inner
