pub mod Bits
pub mod Value
