-- `tokens::step_error` meets its contract, where a step's function promises its own for every book or scope.
use Rattle.tokens.proofs.step_errors.step_error.Goals as goal

pub returns-in-Number : goal.returns-in-Number
returns-in-Number c = rw c.in-Number.is (c.number_error.ensures _ _)
