pub mod Ends
pub mod Runs
pub mod Goals
pub mod GoalFaults
