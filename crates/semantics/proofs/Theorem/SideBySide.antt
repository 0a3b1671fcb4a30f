-- Two runs side by side.
--
-- Both have the same book and text, and at each moment the same nonterminal, place, items, sets and failures. Their
-- states, the paths and stored sets around their calls, and the levels of nesting left may differ, as an instance says
-- by its relations (`Laws`). Each part of the run has one law: what begins alike ends alike. The law has the part's own
-- shape, and the whole is by the levels of nesting.
--
-- What an instance says, and one part of the run after the other
pub mod Relations
-- a variant's cells and a call; what follows a parse, the steps of a variant, and so many levels of nesting
pub mod Calls
pub mod Steps
