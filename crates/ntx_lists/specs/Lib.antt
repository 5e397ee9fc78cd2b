pub mod Copies
pub mod CopyLaws
pub mod Copying
pub mod Lists
pub mod MadeNodes
pub mod Survey
pub mod Trees
