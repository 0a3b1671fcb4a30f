-- The lists at exit hold what the run found: entry i of the parses list is parse i of its set, and a cell stands in the
-- cells list for what it stands for in the run.
use Rattle.std.specs.Prelude.{◌≡◌, List, [], ◌∷◌, map, ℕ, zero, suc, ◌<◌, length, get_or}
use Rattle.std.proofs.Common.{sym, ◌∙◌, subst, arith}
use Rattle.std.proofs.Math.Path.{ap}
use mathlib.Core.List.Memᴰ
use Rattle.book.specs.declared.records.Associativity.{Associativity}
use Rattle.semantics.specs.Values.{Tree, Parse}
use Rattle.semantics.specs.Cells.{one, tree_in}
use Rattle.semantics.specs.Run.{Parsed}
use Rattle.semantics.specs.Answer.{Answer, Answered, filled, written, parse_numbers}
use Rattle.semantics.proofs.Theorem.Lists.{◌∈◌}
use Rattle.semantics.proofs.Theorem.Sets.{get_d_in, distinct_places, parse_fields, associativity_once, tree}
use Rattle.semantics.proofs.Theorem.Table.{Item, meaning, same_cell}
use Rattle.semantics.proofs.Theorem.Forward.{Kept}
use Rattle.semantics.proofs.Theorem.Numbers.{cell_back, ParseAt, parse_back}
use Rattle.semantics.proofs.Theorem.Standing.{stands_once, Listed, table_stands}
use Rattle.semantics.proofs.Theorem.Made.{tree_for}
use Rattle.semantics.specs.Exact.{StandsFor, ListEntry}

-- a member stands at some place
pub place_of : {A : Type 0} (l : List A) (d : A) {a : A} → a ∈ l → (i : ℕ) × (i < length l) × (get_or l i d ≡ a)
place_of [] d m = absurd (Memᴰ.not-nil m)
place_of (b ∷ l) d (Memᴰ.head e) = (zero, omega arith, sym e)
place_of (b ∷ l) d (Memᴰ.tail m) = let r = place_of l d m in (suc r.0, omega (arith, r.1), r.2)

-- the parse that a run's set has for entry i
abbrev pub parse_for : Parsed → ℕ → Parse ℕ
parse_for r i = get_or r.set i (record { rest = 0; level = 0; associativity = Associativity.Left; value = 0 })

-- a parse with the tree that its cell stands for as the run ends
abbrev pub tree_now : List ℕ → Parsed → Parse ℕ → Parse Tree
tree_now text r p = tree (tree_for text r.state.cells) p

module _ (text : List ℕ) (r : Parsed) (h : Kept text r) (lentCells lentParses : List ℕ) (answer : Answer) where
  abbrev pub at_exit : Answered
  at_exit = filled lentCells lentParses answer r

  -- a cell of a parse stands for its tree
  item_means : (n : ℕ) → Item text r.state.cells n →
      meaning text r.state.cells n ≡ one (tree_for text r.state.cells n)
  unfolding tree_in
  item_means n item = item.is ∙ ap one (sym (ap tree_in item.is))

  pub stands_for : (n : ℕ) → Item text r.state.cells n →
      StandsFor text at_exit.cells n (tree_for text r.state.cells n)
  stands_for n item =
      let all : Listed text at_exit.cells r.state.cells =
      record { at = λ k placed. cell_back r.state.cells lentCells h.cells k placed } in
      rw (item_means n item) at (table_stands text at_exit.cells h.table all n item.placed)

  module _ (i : ℕ) (there : i < length r.set) where
    entry_item : Item text r.state.cells (parse_for r i).value
    entry_item = h.values (parse_for r i) (get_d_in r.set i _ there)

    numbers : ParseAt (written 256 (parse_numbers r.set) lentParses) i (parse_for r i)
    numbers = parse_back r.set lentParses _ h.size i there

    pub entry_there : ListEntry text at_exit i (tree_now text r (parse_for r i))
    entry_there = record {
      rest = numbers.rest;
      level = numbers.level;
      associativity = numbers.associativity;
      value = subst (λ n. StandsFor text at_exit.cells n (tree_for text r.state.cells (parse_for r i).value))
          (sym numbers.value) (stands_for (parse_for r i).value entry_item);
    }

    pub entry_only : (p : Parse Tree) → ListEntry text at_exit i p → p ≡ tree_now text r (parse_for r i)
    entry_only p k =
        let e = entry_there in
        parse_fields p (tree_now text r (parse_for r i)) (sym k.rest ∙ e.rest) (sym k.level ∙ e.level)
        (associativity_once _ _ (sym k.associativity ∙ e.associativity))
        (stands_once text at_exit.cells k.value e.value)

  -- two parses of the set that stand for the same are one
  entries_once : (p q : Parse ℕ) → p ∈ r.set → q ∈ r.set → tree_now text r p ≡ tree_now text r q → p ≡ q
  entries_once p q m n e =
      let a = h.values p m in
      let b = h.values q n in
      let v = item_means p.value a ∙ ap (λ (z : Parse Tree). one z.value) e ∙ sym (item_means q.value b) in
      parse_fields p q (ap (λ (z : Parse Tree). z.rest) e) (ap (λ (z : Parse Tree). z.level) e)
      (ap (λ (z : Parse Tree). z.associativity) e)
      (same_cell text r.state.cells h.table p.value q.value a.placed b.placed v)

  pub value_once : (p q : Parse ℕ) → p ∈ r.set → q ∈ r.set →
      (tree_now text r p).value ≡ (tree_now text r q).value → p.value ≡ q.value
  value_once p q m n e =
      let a = h.values p m in
      let b = h.values q n in
      same_cell text r.state.cells h.table p.value q.value a.placed b.placed
      (item_means p.value a ∙ ap one e ∙ sym (item_means q.value b))

  pub entry_once : (p : Parse Tree) (i k : ℕ) → i < length r.set → k < length r.set → ListEntry text at_exit i p →
      ListEntry text at_exit k p → i ≡ k
  entry_once p i k a b x y =
      distinct_places h.distinct _ i k a b
      (entries_once (parse_for r i) (parse_for r k) (get_d_in r.set i _ a) (get_d_in r.set k _ b)
      (sym (entry_only i a p x) ∙ entry_only k b p y))

  -- a tree of the set stands in an entry, and an entry's in the set
  pub listed : (p : Parse Tree) → p ∈ map (tree_now text r) r.set →
      (i : ℕ) × (i < length r.set) × ListEntry text at_exit i p
  listed p m =
      let q = Memᴰ.of_map (tree_now text r) r.set m in
      let at =
      place_of r.set (record { rest = 0; level = 0; associativity = Associativity.Left; value = 0 }) q.1 in (
        at.0,
        at.1,
        subst (λ z. ListEntry text at_exit at.0 z) (ap (tree_now text r) at.2 ∙ q.2)
            (entry_there at.0 at.1),
      )

  pub unlisted : (p : Parse Tree) (i : ℕ) → i < length r.set → ListEntry text at_exit i p →
      p ∈ map (tree_now text r) r.set
  unlisted p i there k = Memᴰ.cast (entry_only i there p k) (Memᴰ.map (tree_now text r) (get_d_in r.set i _ there))
