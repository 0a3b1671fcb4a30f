-- Document 01, "Characters". The definitions: Classes, Skipping, Lexemes, Spelling. The laws about each stand in a file
-- of their own. Slices has the words in which all contracts speak of a lent slice.
pub mod Cases
pub mod Slices
pub mod Classes
pub mod ClassLaws
pub mod Skipping
pub mod Lexemes
pub mod Spelling
