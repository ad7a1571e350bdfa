mod WorkedRows
pub mod FieldLemmas
pub mod EntryLemmas
pub mod LawLemmas
pub mod NameLemmas
pub mod MoveLemmas
pub mod FlightLemmas
pub mod ReplayLemmas
pub mod AuditLemmas
pub mod ReadingLemmas
pub mod WritingLemmas
pub mod RecordingLemmas
