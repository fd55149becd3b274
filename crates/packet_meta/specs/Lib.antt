pub mod Meta
