pub mod PacketLemmas
pub mod PieceLemmas
pub mod PlacesLemmas
pub mod RunLemmas
pub mod TilesLemmas
pub mod WindowsLemmas
