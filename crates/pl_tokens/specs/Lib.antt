pub mod Views
pub mod Lexing
pub mod Reader
pub mod Runs
pub mod Facts
