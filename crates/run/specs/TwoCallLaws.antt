-- Two calls of the reader: the theorems of document 02 n hold of `answer_of`, and what each call gave is `answer_of`'s.
use Rattle.std.specs.Prelude.{◌≡◌, refl, List, ℕ}
use Rattle.std.proofs.Common.{sym, ap, subst, ◌∙◌}
use Rattle.semantics.specs.Answer.{Answered, answer_of}
use Rattle.semantics.specs.Extension.{LosesNothing}
use Rattle.semantics.proofs.Theorem.Extension.Adding.{adding_loses_nothing}
use Rattle.semantics.proofs.Theorem.Longer.{same_under_larger}
use Rattle.run.specs.TwoCalls.{Call, CallsLoseNothing, CallsSameUnderLarger}

-- what document 01 says of a call's lists, book and allowance, with a text and a start
abbrev expected : Call → List ℕ → ℕ → Answered
expected c text start = answer_of c.cells c.parses c.bytes text start c.allowance

as_expected : (c : Call) (text : List ℕ) (start : ℕ) → c.text ≡ text → c.start ≡ start →
    expected c text start ≡ c.gave
as_expected c text start same_text same_start = sym (c.promised.is ∙ rw (same_text, same_start) refl)

pub calls_lose_nothing : CallsLoseNothing
calls_lose_nothing c d e same_text same_start =
    let text = c.text in
    let start = c.start in
    subst (LosesNothing text c.gave) (as_expected d text start same_text same_start)
    (subst (λ (a : Answered). LosesNothing text a (expected d text start)) (as_expected c text start refl refl)
    (adding_loses_nothing c.bytes d.bytes text c.cells c.parses d.cells d.parses start
    c.allowance d.allowance e))

pub calls_same_under_larger : CallsSameUnderLarger
calls_same_under_larger c d same one larger most other =
    let text = c.text in
    let start = c.start in
    let before = as_expected c text start refl refl in
    let after = as_expected d text start same.text same.start in
    let law = same_under_larger c.cells c.parses c.bytes text start c.allowance d.allowance one larger
    most (λ e. other (sym (ap (λ (a : Answered). a.answer.refusal) before) ∙ e)) in
    sym (rw (same.cells, same.parses, same.bytes) at after) ∙ law ∙ before
