pub mod Mail
pub mod Queue
