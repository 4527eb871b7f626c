pub mod FrontLaws
pub mod Short
