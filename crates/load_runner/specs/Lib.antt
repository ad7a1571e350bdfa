pub mod Figures
pub mod Text
pub mod Run
pub mod Tally
pub mod Bundled
pub mod Accepted
