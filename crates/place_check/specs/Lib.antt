pub mod Places
pub mod Rules
pub mod Words
pub mod Session
pub mod Checks
