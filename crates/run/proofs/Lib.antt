-- Laws of lists, a turn of a loop at a time. Proofs of functions cite copy_again alone.
pub mod ListTurns
