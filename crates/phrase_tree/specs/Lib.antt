pub mod Name
pub mod Term
pub mod Numbering
pub mod Events
pub mod Letting
pub mod Text
pub mod Repeats
