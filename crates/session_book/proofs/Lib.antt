pub mod Sorting
pub mod Noting
pub mod Asking
