mod WorkedRows
pub mod FieldLemmas
pub mod HeadLemmas
pub mod FrontLemmas
pub mod ValueLemmas
pub mod BuildLemmas
pub mod ScanLemmas
pub mod PlaceLemmas
pub mod BundleLemmas
pub mod LawLemmas
pub mod ReaderLemmas
pub mod MadeLemmas
pub mod MarkLemmas
