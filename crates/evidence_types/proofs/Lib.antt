mod WorkedBundles
mod WorkedShapes
pub mod HeadLemmas
pub mod ShapeLemmas
pub mod MeasureLemmas
pub mod LeastLemmas
pub mod WithinLemmas
