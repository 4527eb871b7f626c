pub mod Evaluables
pub mod BitLaws
pub mod Tasks
pub mod Numbers
pub mod Roots
