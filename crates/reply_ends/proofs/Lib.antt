pub mod Reading
mod Cells
