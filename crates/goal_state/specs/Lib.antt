pub mod Frames
pub mod Denotation
pub mod Well
pub mod Steps
