pub mod Lengths
pub mod StepLaws
pub mod ReportLaws
