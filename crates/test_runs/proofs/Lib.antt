pub mod Facts
pub mod Entered
