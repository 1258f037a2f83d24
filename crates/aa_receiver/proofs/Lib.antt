pub mod LawsLemmas
pub mod ReceiverLemmas
pub mod StepLemmas
