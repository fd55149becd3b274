pub mod InOrder
pub mod PieceLaws
