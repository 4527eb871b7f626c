pub mod Views
pub mod Passing
pub mod Repeating
pub mod Tables
pub mod Needing
pub mod Bodies
pub mod Missing
pub mod Firsts
