pub mod Names
pub mod CaseTable
