pub mod SkippingLaws
pub mod LexemeLaws
pub mod SpellingLaws
pub mod ClassNumbers
