pub mod Names
pub mod SoFar
