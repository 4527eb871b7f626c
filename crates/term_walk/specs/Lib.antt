pub mod Walks
pub mod NameBounds
pub mod Items
