pub mod Views
pub mod Argument
pub mod Evaluated
pub mod Ordered
pub mod Answers
pub mod Ends
