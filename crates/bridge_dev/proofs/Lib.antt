pub mod EntryLaws
pub mod PortLaws
pub mod CopyLaws
pub mod LastLaws
pub mod OutLaws
