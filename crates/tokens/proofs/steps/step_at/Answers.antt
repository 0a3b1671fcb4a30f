-- `tokens::step_at` meets its contract, where a step's function promises its own for every book or scope.
use Rattle.tokens.proofs.steps.step_at.Goals as goal

pub returns-in-Character : goal.returns-in-Character
returns-in-Character c = rw c.in-Character.is (c.character.ensures _ _)

pub returns-in-Word : goal.returns-in-Word
returns-in-Word c = rw c.in-Word.is (c.word_at.ensures _)

pub returns-in-Identifier : goal.returns-in-Identifier
returns-in-Identifier c = rw c.in-Identifier.is (c.identifier.ensures _)

pub returns-in-Number : goal.returns-in-Number
returns-in-Number c = rw c.in-Number.is (c.number.ensures _ _)

pub returns-in-RejectReserved : goal.returns-in-RejectReserved
returns-in-RejectReserved c = rw c.in-RejectReserved.is (c.reject_reserved.ensures _)

pub returns-in-Delimited : goal.returns-in-Delimited
returns-in-Delimited c = rw c.in-Delimited.is (c.delimited.ensures _ _)

pub returns-in-OptionalDelimited : goal.returns-in-OptionalDelimited
returns-in-OptionalDelimited c = rw c.in-OptionalDelimited.is (c.optional_delimited.ensures _ _)

pub returns-in-Binder : goal.returns-in-Binder
returns-in-Binder c = rw c.in-Binder.is (c.binder.ensures _ _)
