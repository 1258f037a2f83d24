pub mod FindingsLemmas
pub mod ResidueLemmas
pub mod SizedLemmas
pub mod FirstLemmas
pub mod EntryRowsLemmas
pub mod TestLemmas
pub mod PresenceLemmas
