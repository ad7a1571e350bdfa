mod WorkedWire
pub mod StageLemmas
pub mod RequestLemmas
pub mod MessageLemmas
pub mod KeptLemmas
pub mod LinkLemmas
pub mod FramedLemmas
pub mod WireLemmas
pub mod ListingLemmas
