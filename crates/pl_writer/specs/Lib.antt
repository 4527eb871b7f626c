pub mod Edges
pub mod Todos
