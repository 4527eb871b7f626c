mod Forest
mod Steps
pub mod Whole
mod OrderLaws
mod Numbering
mod Seen
mod CellOrder
