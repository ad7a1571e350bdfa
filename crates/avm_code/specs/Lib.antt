pub mod Text
pub mod Listing
pub mod Blocks
pub mod Heights
pub mod Made
pub mod Order
