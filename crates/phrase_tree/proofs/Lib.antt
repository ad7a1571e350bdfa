mod WorkedPhrases
pub mod DepthBounds
