pub mod Numbers
pub mod Constructs
pub mod Goals
pub mod Conjuncts
pub mod Balls
pub mod Conversion
pub mod Calling
pub mod Kinds
