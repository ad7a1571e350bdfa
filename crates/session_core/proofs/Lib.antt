mod Facts
mod Told
mod Going
mod Asking
mod Results
mod Lifting
mod OpeningLemmas
pub mod Counts
pub mod Flying
pub mod ReadingFacts
pub mod Recording
pub mod PlayingFacts
pub mod MoveCounts
pub mod SessionFacts
pub mod TouchingFacts
