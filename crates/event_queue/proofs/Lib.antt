pub mod InOrder
pub mod KeyOrdering
pub mod HeapLaws
pub mod LoadLaws
pub mod PendingLaws
