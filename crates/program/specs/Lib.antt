-- What is answered for a rule, how many bytes are loaded, and laws of the parts of its line.
pub mod Rule
pub mod Counts
pub mod RuleLaws
