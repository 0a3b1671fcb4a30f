-- Laws that no proof of a function needs.
pub mod ClearingTurns
