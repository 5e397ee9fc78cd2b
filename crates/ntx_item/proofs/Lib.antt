pub mod ItemsLemmas
pub mod NameLemmas
pub mod SettingsLemmas
pub mod SumLemmas
