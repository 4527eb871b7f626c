pub mod Translation
pub mod SameRun
