pub mod NumberLemmas
pub mod WalkLemmas
