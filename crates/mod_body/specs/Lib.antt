pub mod Places
pub mod Converting
pub mod Clauses
