pub mod NewReno
pub mod Step
