pub mod EachLemmas
pub mod FontLemmas
pub mod ScalingLemmas
pub mod SoundLemmas
pub mod StepLemmas
