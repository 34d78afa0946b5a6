pub mod RanLemmas
pub mod StepLemmas
