-- What the call and its parts equal, what stays between two calls, and the laws by which it is so.
pub mod Promise
pub mod TwoCalls
pub mod Reading
pub mod ListLaws
pub mod ReadingLaws
pub mod TwoCallLaws
