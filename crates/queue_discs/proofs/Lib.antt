pub mod BucketLaws
pub mod DiscLaws
pub mod BandLaws
pub mod OrderLaws
pub mod BudgetLaws
