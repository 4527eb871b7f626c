pub mod Places
pub mod Giving
pub mod Seeing
pub mod Faults
pub mod Rows
pub mod Texts
pub mod Laws
