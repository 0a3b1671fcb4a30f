-- Laws of the nonterminals of mark 3.
--
--   first_step_in, -out       the number of a variant's first step, by the index
--   sought-                   whether a nonterminal is the one that is looked for
--   binder_on, -hit, -end     those before n are none
--   binder_any                whether there is the one that is looked for
--   among_any                 the one that is looked for is one of any
use Rattle.std.specs.Prelude.{◌≡◌, refl, Bool, true, false, ◌&&◌, ◌||◌, List, [], ◌∷◌, ℕ, ◌≤◌, ◌<◌, eqb}
use Rattle.std.specs.Prelude.{get_or}
use Rattle.std.specs.List.{list_any}
use Rattle.std.proofs.Common.{arith}
use Rattle.book.specs.Book.{mark_number, no_variant}
use Rattle.book.specs.Check.{of_binder}
use Rattle.book.specs.Index.{count_in, place_in, first_in, variant_from, placed_in}
use Rattle.book.specs.Numbers.{binder_mark}
use Rattle.book.proofs.ReadingLaws.{up_to_in, up_to_out}
use Rattle.book.specs.declared.records.Nonterminal.{Nonterminal}
use Rattle.book.specs.declared.records.Variant.{Variant}
use Rattle.std.specs.Prelude.{◌+◌, length, drop}
use Rattle.std.proofs.Common.{sym, ◌∙◌, add-one, drop_of_length-le, drop-cons}
use Rattle.book.specs.Index.{is_sought}
use Rattle.book.specs.declared.binders.Sought.{Sought}

-- ---- The first step of a variant
module _ (book index : List ℕ) (j first count : ℕ) (count_is : count ≡ count_in index 323) where
  abbrev placed_from : ℕ → ℕ × Variant
  placed_from j = (place_in index 323 j, variant_from book (place_in index 323 j) (first_in index 323 j))

  pub first_step_in : j < count → first ≡ first_in index 323 j →
      first ≡ (get_or (placed_in book index) j (0, no_variant)).1.first
  first_step_in h e = rw (up_to_in placed_from (count_in index 323) j (0, no_variant) (omega arith)) e

  pub first_step_out : count ≤ j → 0 ≡ (get_or (placed_in book index) j (0, no_variant)).1.first
  first_step_out h = rw (up_to_out placed_from (count_in index 323) j (0, no_variant) (omega arith))

-- ---- Whether a nonterminal is the one that is looked for
module _ (book index : List ℕ) (own n : Nonterminal) (same : own ≡ n) (sought : Sought) (binder : Bool)
    (binder_is : binder ≡ eqb (mark_number own.mark) binder_mark) where
  pub sought_other : binder ≡ false → false ≡ is_sought sought book index n
  sought_other e = rw (← same, sym binder_is ∙ e)

  module _ (e : binder ≡ true) where
    pub sought_any : sought ≡ Sought.Any → true ≡ is_sought sought book index n
    sought_any told = rw (told, ← same, sym binder_is ∙ e)

    pub sought_variant : (j : ℕ) → sought ≡ Sought.OfVariant j → eqb own.first j ≡ is_sought sought book index n
    sought_variant j told = rw (told, ← same, sym binder_is ∙ e)

    pub sought_step : (k first : ℕ) → sought ≡ Sought.OfStep k →
        first ≡ (get_or (placed_in book index) own.first (0, no_variant)).1.first →
        eqb first k ≡ is_sought sought book index n
    sought_step k first told first-is = rw (told, first-is, ← same, sym binder_is ∙ e)

-- ---- The loop: those before n are none
module _ (at : Nonterminal → ℕ) (i : ℕ) (nonterminals : List Nonterminal) (n : ℕ) where
  pub binder_end : length nonterminals ≤ n → of_binder at (drop n nonterminals) i ≡ false
  unfolding of_binder
  binder_end h = rw (drop_of_length-le nonterminals h)

  module _ (d : Nonterminal) where
    abbrev Here : Bool → Type 0
    Here b = (eqb (mark_number (get_or nonterminals n d).mark) binder_mark && eqb (at (get_or nonterminals n d)) i) ≡ b

    pub binder_on : n < length nonterminals → Here false →
        of_binder at (drop n nonterminals) i ≡ of_binder at (drop (n + 1) nonterminals) i
    unfolding of_binder
    binder_on h e = rw (drop-cons nonterminals n d h, e, add-one)

    pub binder_hit : n < length nonterminals → Here true → of_binder at (drop n nonterminals) i ≡ true
    unfolding of_binder
    binder_hit h e = rw (drop-cons nonterminals n d h, e)

-- ---- Whether there is one
pub binder_any : (at : Nonterminal → ℕ) (i : ℕ) (nonterminals : List Nonterminal) →
    list_any (λ n. eqb (mark_number n.mark) binder_mark && eqb (at n) i) nonterminals ≡ of_binder at nonterminals i
unfolding of_binder
binder_any at i [] = refl
binder_any at i (n ∷ ns) = rw (binder_any at i ns)

-- ---- Any, and the one that is looked for
among : (binder there any found : Bool) → (any && found) ≡ found →
    (((binder && true) || any) && ((binder && there) || found)) ≡ ((binder && there) || found)
among true there any found e = refl
among false there any found e = e

pub among_any : (at : Nonterminal → ℕ) (i : ℕ) (nonterminals : List Nonterminal) →
    (of_binder (λ n. 0) nonterminals 0 && of_binder at nonterminals i) ≡ of_binder at nonterminals i
unfolding of_binder
among_any at i [] = refl
among_any at i (n ∷ ns) =
    among (eqb (mark_number n.mark) binder_mark) (eqb (at n) i) (of_binder (λ n. 0) ns 0) (of_binder at ns i)
    (among_any at i ns)
