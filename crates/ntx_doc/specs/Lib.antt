-- the reasons to refuse a document, as a fault line prints them
pub mod Why
-- a line as text: its bytes, its fields, its numbers
pub mod Text
-- the tests of a line, one after another
pub mod Refusal
-- the numbers of a line and their ranges
pub mod Numbers
-- the forms of lines and their first fields
pub mod Forms
-- what a line says by itself
pub mod Instruction
-- what words of text put into a box
pub mod Words
-- what the lines before a line say, and what an instruction does there
pub mod Place
-- where a line leads to
pub mod Lines
-- what a document says: `document_of`
pub mod Document
-- for private calls: the place that a draft holds
pub mod Draft
-- what the commands of an accepted document keep
pub mod Shape
