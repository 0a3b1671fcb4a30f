-- Laws that rest on definitions of this crate which its own edits turn.
pub mod FoundNames
pub mod ByTests
