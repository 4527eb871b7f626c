pub mod Saying
pub mod Linking
