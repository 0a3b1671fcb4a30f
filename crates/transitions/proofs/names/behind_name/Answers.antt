-- `transitions::behind_name` meets its contract.
use Rattle.std.proofs.Common.{refl, ap, arith, sym, true, ◌∙◌}
use Rattle.tokens.specs.Maps.{after_of}
use Rattle.transitions.specs.TakenLaws.{goes_fits, halts_fits}
use Rattle.transitions.specs.NamesLaws.{behind_goes, behind_halts}
use Rattle.transitions.proofs.names.behind_name.Goals as goal

pub overflow_cast-result : goal.overflow_cast-result
overflow_cast-result c =
    omega (
      arith,
      goes_fits _ true _ _ c.requires.0 c.requires.1 (sym (ap after_of c.in-Goes.is) ∙
          c.after_element.ensures),
    )

pub overflow_cast-result-in-Halts : goal.overflow_cast-result-in-Halts
overflow_cast-result-in-Halts c =
    omega (
      arith,
      halts_fits _ true _ _ c.requires.0 c.requires.1 (sym (ap after_of c.in-Halts.is) ∙
          c.after_element.ensures),
    )

pub returns-in-Goes : goal.returns-in-Goes
returns-in-Goes c = λ s. behind_goes _ _ _ s _ refl _ c.after_element.ensures _ c.in-Goes.is

pub returns-in-Halts : goal.returns-in-Halts
returns-in-Halts c = λ s. behind_halts _ _ _ s _ refl _ c.after_element.ensures _ c.in-Halts.is
