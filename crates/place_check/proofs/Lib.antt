pub mod KeyLemmas
pub mod RuleLemmas
mod WorkedRules
