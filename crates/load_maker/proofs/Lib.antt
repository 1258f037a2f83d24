pub mod LoadLemmas
pub mod BytesLemmas
