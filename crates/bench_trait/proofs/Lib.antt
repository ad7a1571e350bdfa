pub mod BookLemmas
pub mod SeekLemmas
pub mod DigestLemmas
