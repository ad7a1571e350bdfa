pub mod Frames
pub mod Standing
pub mod Reading
pub mod Front
