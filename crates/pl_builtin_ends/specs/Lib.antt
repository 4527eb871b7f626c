pub mod Meets
pub mod Made
