pub mod Answers
pub mod BadnessLemmas
pub mod RatioLemmas
pub mod Traces
