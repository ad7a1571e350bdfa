pub mod OrderLemmas
mod WorkedListings
