pub mod Replaced
pub mod LawProofs
pub mod MguProofs
pub mod Only
