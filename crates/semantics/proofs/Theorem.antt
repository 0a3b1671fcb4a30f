-- The theorems of the definitions.
--
-- Found is derivable: `Exact` of every answer that isn't refused before the run and meets no limit. The proof, file by
-- file:
--
-- the run as a relation over trees, without work, nesting, cells and errors
pub mod Lists
pub mod BigStep
-- what the relation finds is derivable; what is derivable, by a derivation of any height, it finds, since marks only
-- come and a marked call ends with a round that stored all that it found
pub mod Heights
pub mod Sound
pub mod Marks
pub mod TakenApart
pub mod Complete
pub mod Exactly
-- results taken apart, what tokens read, sets of parses, facts of an accepted book
pub mod Results
pub mod Tokens
pub mod Sets
pub mod Records
pub mod Sections
pub mod BookFacts
-- cells: what each stands for stays, and two that stand for the same are one
pub mod Meanings
pub mod Table
-- the run holds only cells of its table, from its start to its end
pub mod Holding
pub mod HoldingCells
pub mod ForwardCalls
pub mod ForwardBinders
pub mod Forward
-- the run does what the relation says of the trees that its cells stand for
pub mod Made
pub mod Failures
pub mod Link
pub mod LinkTail
pub mod LinkLists
pub mod LinkBinders
pub mod LinkSteps
-- the answer: its limits, its lists, its refusals, and the theorem
pub mod Limits
pub mod Numbers
pub mod Standing
pub mod Listing
pub mod Outcomes
pub mod Found
--
-- Adding a variant loses nothing (specs/Extension.antt): one induction over derivations
pub mod Extension
--
-- A larger allowance changes nothing (specs/Allowance.antt): two runs side by side, of which the second has more units
pub mod SideBySide
pub mod Longer
--
-- A use that was answered has the same answer when it is run again: two runs side by side, of which the second finds
-- the cells of the first
pub mod Replay
