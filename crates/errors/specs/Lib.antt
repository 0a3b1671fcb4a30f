-- What the code's errors stand for, and the run's definitions of errors over the numbers that they read.
pub mod Maps
pub mod Failures
pub mod Lists
pub mod ListLaws
