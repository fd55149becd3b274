pub mod KeptLaws
pub mod MergeLaws
