pub mod Several
pub mod Lists
pub mod Reads
pub mod Words
pub mod Sorts
pub mod Operators
