-- Packets rebuilt from restored fields: which conditions fail, the headers and lengths, the
-- checksum, and the packet that they make.
pub mod PlainLemmas
pub mod FilledLemmas
pub mod JoinedLemmas
pub mod RestoredHeadersLemmas
pub mod HeadLemmas
pub mod LongLemmas
pub mod ChecksumLemmas
pub mod MadeLemmas
pub mod PutLemmas
pub mod WholeLemmas
pub mod ListedLemmas
pub mod PutPacketLemmas
