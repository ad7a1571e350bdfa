pub mod ChoiceLemmas
pub mod CoverLemmas
pub mod DecisionLemmas
pub mod EvidenceLemmas
pub mod PolicyLemmas
pub mod ReadingLaws
pub mod ReleaseLaws
pub mod RuleLemmas
pub mod TextLemmas
pub mod WalkLemmas
mod WorkedReleases
