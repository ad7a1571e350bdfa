pub mod ItemLemmas
mod WorkedPaths
