pub mod Versions
pub mod Reading
pub mod Scanning
pub mod Building
pub mod Decoding
pub mod Scanned
pub mod Making
pub mod Words
