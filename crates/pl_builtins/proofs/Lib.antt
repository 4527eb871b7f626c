pub mod Arguments
pub mod Deeds
pub mod Ordering
pub mod Valued
pub mod Ended
pub mod Integers
