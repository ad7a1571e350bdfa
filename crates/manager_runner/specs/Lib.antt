pub mod Ended
pub mod Staying
