pub mod Places
pub mod Tags
pub mod Linked
pub mod Views
pub mod Rules
pub mod Runs
pub mod Facts
pub mod Walks
