pub mod LeafLemmas
pub mod AcceptedLemmas
pub mod TallyLemmas
pub mod FeedLemmas
pub mod FoundLemmas
