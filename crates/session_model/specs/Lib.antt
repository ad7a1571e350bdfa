pub mod Value
pub mod Short
pub mod Session
pub mod Record
pub mod Recorded
pub mod RightRecord
