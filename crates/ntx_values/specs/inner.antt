pub mod Border
pub mod Walk
