pub mod KeepingLemmas
pub mod MachineLemmas
pub mod MarksLemmas
pub mod PreviewLemmas
pub mod ReceiverLemmas
pub mod StepsLemmas
pub mod StoreLemmas
pub mod WindowLemmas
