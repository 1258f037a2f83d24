pub mod CutLemmas
pub mod KeepsLemmas
pub mod LawsLemmas
pub mod MarksLemmas
pub mod MessageLemmas
pub mod SessionLemmas
