pub mod Looking
pub mod Seen
pub mod Interfaces
pub mod Drafts
pub mod Sections
pub mod Faults
pub mod Taking
