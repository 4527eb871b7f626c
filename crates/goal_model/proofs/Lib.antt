pub mod ItemLaws
pub mod GuardProofs
pub mod SaneProofs
pub mod ConversionProofs
pub mod ChoiceProofs
pub mod RenamingProofs
pub mod Worked
pub mod Vectors
