pub mod Numbering
pub mod Counts
