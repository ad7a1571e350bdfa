mod ListLemmas
mod WalkLemmas
pub mod FitLemmas
pub mod AcceptLemmas
mod SessionLemmas
mod ShapeLemmas
