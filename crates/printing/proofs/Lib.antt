pub mod LayingLaws
pub mod NumberLaws
pub mod CellLaws
pub mod LineLaws
pub mod Worked
pub mod FeedTurns
