pub mod Known
pub mod States
pub mod Steps
pub mod Again
