pub mod NamesLemmas
pub mod PerRoleLemmas
pub mod TextsLemmas
