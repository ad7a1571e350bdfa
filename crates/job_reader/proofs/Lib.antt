pub mod EachLemmas
pub mod RepeatLemmas
pub mod LeastLemmas
pub mod PhraseLemmas
pub mod CheckLemmas
pub mod NonceLemmas
pub mod ReadLemmas
pub mod AcceptLemmas
pub mod RefusalLemmas
pub mod FindingLemmas
pub mod AnswerLemmas
pub mod AskLemmas
pub mod SmallLemmas
mod WorkedForm
pub mod FaultLemmas
