pub mod Bytes
pub mod Starved
pub mod Reading
pub mod Written
pub mod Flights
pub mod Audit
pub mod Recording
