mod Vectors
pub mod Same
pub mod GivesLaws
mod LeastLaws
mod TogetherLaws
mod WholeLaws
