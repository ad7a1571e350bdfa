pub mod KeyLemmas
pub mod AskLemmas
pub mod GatherLemmas
pub mod NestingLemmas
pub mod AnswerLemmas
pub mod BundleLemmas
pub mod CodeLemmas
pub mod StepLemmas
pub mod LeadLemmas
pub mod EndLemmas
pub mod FixedLemmas
pub mod RightLemmas
mod WorkedRecords
pub mod WellFormedLemmas
