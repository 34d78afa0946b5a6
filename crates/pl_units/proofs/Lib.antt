pub mod MatchLemmas
pub mod NumberLemmas
pub mod OrderLemmas
pub mod PeriodLemmas
pub mod PlaceLemmas
pub mod Utf16Lemmas
