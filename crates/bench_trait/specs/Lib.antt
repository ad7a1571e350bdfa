pub mod Artefacts
pub mod Asking
pub mod Bench
pub mod Digest
pub mod Seeking
pub mod Table
