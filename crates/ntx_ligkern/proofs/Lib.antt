pub mod Sounding
pub mod Kernings
pub mod FoundKerns
pub mod Walked
-- ligatures
pub mod StepEnds
pub mod DiscEnds
pub mod Turning
pub mod Rises
pub mod Ahead
pub mod Measures
pub mod DiscTurns
pub mod Stepping
pub mod ListTurns
pub mod WholePass
