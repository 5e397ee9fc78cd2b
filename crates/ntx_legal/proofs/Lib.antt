pub mod SumsLemmas
pub mod PlaceLemmas
pub mod PartLemmas
pub mod TotalsLemmas
pub mod SmallItems
