pub mod Sessions
pub mod Events
pub mod Walk
pub mod Records
pub mod Transcripts
pub mod Verdicts
pub mod Refusal
