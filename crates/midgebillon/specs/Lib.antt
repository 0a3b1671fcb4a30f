-- What the library promises. The laws by which it does stand in proofs/.
pub mod Library
pub mod Joining
