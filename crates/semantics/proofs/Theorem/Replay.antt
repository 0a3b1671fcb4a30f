-- A use that is run a second time. In one run of a text, a use that was answered gives the same answer for the same
-- units at each later time that it is run under the same conditions, and makes no cell, or its units run out: all cells
-- that it makes are there. So a reader that keeps the answer need not run the use again (`kept-true`).
--
--   Fresh       the conditions: what a use sees of its path, and paths in which it sees the same
--   Around      what is around the uses inside, and the marks of the open calls
--   Results     how both runs of a part end, if the first has a result
--   Instance    these are two runs side by side
--   Kept        the theorem
pub mod Fresh
pub mod Around
pub mod Results
pub mod Instance
pub mod Kept
