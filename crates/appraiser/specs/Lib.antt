pub mod Fit
pub mod Walked
pub mod Expected
pub mod Verdicts
pub mod Appraised
pub mod Given
pub mod Holding
pub mod Laws
