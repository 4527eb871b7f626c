pub mod Tokens
pub mod Grammar
pub mod Reading
pub mod Roots
pub mod Writing
pub mod ReadBack
