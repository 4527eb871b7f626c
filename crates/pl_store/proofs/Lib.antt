mod PlaceLaws
mod TagLaws
mod AddLaws
mod IndexLaws
mod ProgramLaws
pub mod FactLaws
pub mod WalkLaws
