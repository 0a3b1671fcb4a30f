pub mod LibraryLaws
pub mod TwoCallLaws
