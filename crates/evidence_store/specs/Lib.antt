pub mod Coding
pub mod Kept
pub mod Nodes
pub mod Room
pub mod Walk
pub mod Feeding
