pub mod Lines
pub mod NumberedLemmas
mod WorkedReports
