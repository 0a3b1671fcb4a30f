-- Document 01, "The book", and refusals 3 to 8 of "The answer".
pub mod Numbers
pub mod Book
pub mod Check
pub mod Index
pub mod View
