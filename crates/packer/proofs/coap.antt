-- Packets with CoAP: the fields of a message in packet order, and what is written and read of a
-- packet that holds one.
pub mod AscendLemmas
pub mod OrderedLemmas
pub mod MessageFieldsLemmas
pub mod SizedCoapLemmas
pub mod OrderingLemmas
pub mod SortLemmas
pub mod AlikeLemmas
pub mod CoapHeadersLemmas
pub mod CoapPutLemmas
pub mod CoapRestoredLemmas
pub mod CoapOneLemmas
