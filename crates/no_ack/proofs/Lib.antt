pub mod ArrivalLemmas
pub mod KeptLemmas
pub mod ReceiverLemmas
pub mod SenderLemmas
