pub mod Drawn
pub mod Taken
pub mod UnderWay
pub mod Records
pub mod Fixed
pub mod Sessions
pub mod Turns
