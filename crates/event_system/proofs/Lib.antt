pub mod OrderLaws
pub mod NeedsLaws
pub mod TraceLaws
pub mod SystemLaws
pub mod FaultLaws
pub mod ListLaws
pub mod NeedsOnce
mod WorkedOrder
