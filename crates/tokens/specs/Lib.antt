-- How this crate's structs and enums stand for the definitions of `semantics`, and laws of variables.
pub mod Maps
pub mod Declarations
pub mod VariableLaws
