mod Ends
mod Texts
mod Joining
mod Goals
pub mod Decided
pub mod GoalRuns
pub mod Variables
pub mod GoalFaults
mod Vectors
