mod Rows
mod Open
