-- `tokens::declaration_at` meets its contract.
use Rattle.std.proofs.Common.{ap, arith, sym, ◌∙◌}
use Rattle.tokens.specs.Declarations.{kind_of, declares_nothing, declares_unnamed, declares_name, place_within}
use Rattle.tokens.proofs.declarations.declaration_at.Goals as goal

pub returns-in_default : goal.returns-in_default
returns-in_default c =
    declares_nothing _ _ _ _ (sym c.kind_at.ensures ∙ ap kind_of c.in_default.is) c.not_declared.ensures

pub overflow_cast-place : goal.overflow_cast-place
overflow_cast-place c =
    let there = sym c.kind_at.ensures ∙ ap kind_of c.in-Some.is in
    omega (arith, c.requires, place_within _ _ _ _ _ _ there c.skip-place.ensures)

pub returns-in_default-free_end : goal.returns-in_default-free_end
returns-in_default-free_end c =
    let there = sym c.kind_at.ensures ∙ ap kind_of c.in-Some.is in
    declares_unnamed _ _ _ _ _ _ there c.skip-place.ensures _ (sym c.free_end.ensures ∙ c.in_default-free_end.is)
    c.identifier_error.ensures

pub returns : goal.returns
returns c =
    let there = sym c.kind_at.ensures ∙ ap kind_of c.in-Some.is in
    declares_name _ _ _ _ _ _ there c.skip-place.ensures _ (sym c.free_end.ensures ∙ c.in-Some-free_end.is)
