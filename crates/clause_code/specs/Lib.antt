pub mod Codes
pub mod Heads
pub mod Names
pub mod HeadNames
pub mod Led
pub mod Targets
