pub mod FramesLaws
pub mod RecordsLaws
pub mod PiecesLaws
pub mod PieceReading
pub mod KeptLaws
pub mod PieceWriting
pub mod StretchLaws
