pub mod ReadyLaws
pub mod CodedLaws
pub mod HeadLaws
pub mod NameLaws
pub mod ListLaws
