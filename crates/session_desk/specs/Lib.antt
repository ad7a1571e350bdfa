pub mod Views
pub mod Seats
pub mod Cells
pub mod Taking
pub mod Words
pub mod Answers
pub mod Opening
