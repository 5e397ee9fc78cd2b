-- where the nodes of a list stand, one after another
pub mod Rows
-- how far they stand from one another
pub mod Reaches
-- boxes between push and pop
pub mod Groups
-- what is put at the end of pieces
pub mod Adds
-- the pieces of a page can be drawn
pub mod Drawables
-- the numbers by which nodes are placed
pub mod Ranges
-- marks
pub mod Marks
-- the steps by which a list is placed
pub mod Steps
-- the numbers of fonts
pub mod Numbers
-- what operations leave
pub mod Leaves
-- pieces that are written one after another
pub mod Drawing
-- the lists of a page are freed
pub mod Freeing
-- the place on a page after a piece
pub mod Pens
-- what shipping a page does
pub mod Shipped
