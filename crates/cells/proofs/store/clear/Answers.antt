-- `cells::clear` meets its contract: zeros are written over the heads.
use Rattle.std.proofs.Common.{◌≡◌, length, arith, refl, rules}
use Rattle.std.proofs.lemmas.List.{places}
use Rattle.cells.specs.ClearingLaws.{clearing_heads, clearing_last}
use Rattle.cells.proofs.store.clear.Goals as goal

pub returns : goal.returns
returns c =
    let long : length c.fill.new.self ≡ 1024 = search (rules, places) in
    clearing_last _ _ 1024 (omega arith) (search (rules, places))
    (clearing_heads _ _ (omega arith) long
    (λ i l. c.fill.ensures.clones i 0 (omega (arith, c.fill.ensures.len)) refl))
