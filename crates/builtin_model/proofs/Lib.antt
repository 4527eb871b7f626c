pub mod TextLaw
pub mod ValueLaw
pub mod Vectors
