pub mod Tables
pub mod Standard
pub mod Entries
pub mod Refusals
pub mod StandardRows
