pub mod Walking
pub mod NameBounds
pub mod Readings
