pub mod Naming
pub mod Rows
pub mod Faults
pub mod Lists
pub mod Values
pub mod Deeds
pub mod Output
pub mod Renaming
