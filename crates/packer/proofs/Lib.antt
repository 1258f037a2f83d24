-- The folders have what is about writing, rebuilding, CoAP and reading. What stands beside them is
-- used by several, or by crates above.
pub mod PacketOrderLemmas
pub mod FirstPartsLemmas
pub mod HeaderFieldsLemmas
pub mod SplitLemmas
pub mod CoverLemmas
pub mod PacketFieldsLemmas
pub mod HeadersLemmas
pub mod ChosenLemmas
pub mod WrittenLemmas
pub mod TriedLemmas
pub mod AgreeLemmas
pub mod PackedLemmas
pub mod writing
pub mod rebuilt
pub mod coap
pub mod reading
