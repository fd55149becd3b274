pub mod Walking
pub mod Lending
pub mod Reading
pub mod Apart
pub mod OneField
pub mod Crosses
