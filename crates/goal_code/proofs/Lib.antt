pub mod Shaping
pub mod Running
pub mod Compiling
pub mod DenotationLaws
pub mod ContinuationLaws
pub mod SettledLaws
pub mod SettledWork
