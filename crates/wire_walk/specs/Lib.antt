pub mod UnderWay
pub mod Told
