pub mod Lookups
pub mod Standards
