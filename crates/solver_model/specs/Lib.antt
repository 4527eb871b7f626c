pub mod Search
pub mod Frames
pub mod Guards
pub mod Configurations
pub mod ValueLaws
pub mod Tables
