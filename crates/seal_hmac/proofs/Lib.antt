mod Bits
pub mod Lengths
mod WorkedCodes
