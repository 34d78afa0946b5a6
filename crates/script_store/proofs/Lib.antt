pub mod SameScripts
pub mod KeyLemmas
pub mod StoredLemmas
pub mod CommandLemmas
