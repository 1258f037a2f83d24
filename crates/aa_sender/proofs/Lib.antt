pub mod ArrivalLemmas
pub mod KeptLemmas
pub mod SenderLemmas
pub mod SessionLemmas
