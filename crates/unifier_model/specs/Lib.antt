pub mod Substitution
pub mod Unifier
pub mod Mgu
pub mod UnifierLaws
