pub mod Same
pub mod References
pub mod Leaves
pub mod Order
