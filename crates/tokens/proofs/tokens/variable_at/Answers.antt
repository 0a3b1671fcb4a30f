-- `tokens::variable_at` meets its contract.
use Rattle.std.proofs.Common.{ap, sym, ◌∙◌}
use Rattle.calls.specs.Names.{declared_of}
use Rattle.tokens.specs.VariableLaws.{variable_declared, variable_starting}
use Rattle.tokens.proofs.tokens.variable_at.Goals as goal

pub returns-in-Some : goal.returns-in-Some
returns-in-Some c = variable_declared _ _ _ _ _ (sym c.identifier_end.ensures ∙ c.in_ok-end.was) _
    (rw c.span_length.ensures at (sym (ap declared_of c.in-Some.is) ∙ c.declared_at.ensures))

pub returns-in-None : goal.returns-in-None
returns-in-None c = c.starting_name.ensures ∙
    variable_starting _ _ _ _ _ (sym c.identifier_end.ensures ∙ c.in_ok-end.was)
    (rw c.span_length.ensures at (sym (ap declared_of c.in-None.is) ∙ c.declared_at.ensures))
