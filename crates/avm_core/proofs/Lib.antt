pub mod Frames
pub mod Standing
pub mod StepLemmas
pub mod SmallValues
pub mod Driving
