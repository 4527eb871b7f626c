pub mod Places
pub mod Noting
pub mod Order
pub mod Texts
pub mod Cells
pub mod Renaming
pub mod Valid
pub mod Shuffling
