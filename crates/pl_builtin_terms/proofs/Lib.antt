mod Walks
mod Lists
pub mod Firsts
pub mod Finding
mod Endings
pub mod Copies
pub mod New
mod Parts
pub mod Renumbering
pub mod Made
