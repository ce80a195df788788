pub mod Decimal
pub mod FieldLaws
pub mod Fields
pub mod PieceLaws
pub mod Pieces
pub mod Sent
pub mod Steps
