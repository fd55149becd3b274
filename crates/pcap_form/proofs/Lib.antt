pub mod FieldLaws
pub mod HeadLaws
pub mod LoopLaws
pub mod PacketLaws
pub mod ReadingLaws
pub mod WrittenLaws
