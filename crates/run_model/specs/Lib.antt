pub mod Rows
pub mod Model
