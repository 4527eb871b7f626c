pub mod Walk
pub mod Items
pub mod Counts
pub mod ErrorTerms
