pub mod FlatLaws
pub mod ListLaws
