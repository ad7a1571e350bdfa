pub mod Port
pub mod Reading
pub mod Writing
pub mod Memory
pub mod Standard
