pub mod Labels
pub mod Claims
pub mod Judged
pub mod Measured
pub mod Policy
pub mod Cut
pub mod Lines
