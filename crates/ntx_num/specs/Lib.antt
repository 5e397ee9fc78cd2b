pub mod Answer
pub mod Badness
pub mod Demerits
pub mod Dimension
pub mod Ratio
pub mod Trace
