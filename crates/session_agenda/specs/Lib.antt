pub mod Kept
pub mod Listed
pub mod Placed
pub mod Updated
pub mod Told
