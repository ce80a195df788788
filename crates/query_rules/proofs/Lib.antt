pub mod RowsLeft
