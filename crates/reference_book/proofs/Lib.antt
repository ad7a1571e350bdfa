mod WorkedReferences
pub mod OrderLemmas
pub mod IndexLemmas
pub mod FoundLemmas
pub mod RisingLemmas
pub mod LeafLemmas
