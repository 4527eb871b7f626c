pub mod Sizes
pub mod Runs
pub mod Numbers
pub mod Moves
pub mod Variables
pub mod Sound
pub mod Decided
pub mod RunTokens
