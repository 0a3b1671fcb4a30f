-- Adding a variant loses nothing. An answer lists exactly what its book derives (Found), and what a book derives its
-- extension derives:
--
--   Places, Bytes, Alike, Books    the check reads the same of both, and the variant and its steps besides
--   Derivations                    by induction over derivations, each one of the book is one of a book that retains
--                                  what the rules ask of it
--   Retained                       the extension retains that
--   Adding                         the theorem
pub mod Places
pub mod Bytes
pub mod Alike
pub mod Books
pub mod Derivations
pub mod Retained
pub mod Adding
