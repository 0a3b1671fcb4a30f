-- Laws for the search for a declared name that say which name is found, by its index in its binder (`name_in` of
-- Names). The others are in NamesLaws of specs/.
--
-- Contents:
-- - the names of one binder, the nearest row first: looking_name
-- - the binders, the innermost first: searching_hit, searching_on
use Rattle.std.specs.Prelude.{◌≡◌, Bool, true, length}
use Rattle.std.proofs.Math.Path.{refl, sym, ap}
use Rattle.std.proofs.Common.{◌∙◌}
use mathlib.Core.List.{List, []}
use Rattle.std.specs.Prelude.{Option, None, Some}
use Prim.Native.Nat.{ℕ, zero, suc, ◌+◌, ◌-◌, ◌<◌, ◌≤◌}
use Rattle.characters.specs.Spelling.{same}
use Rattle.book.specs.Book.{lookup_from, lookup_name}
use Rattle.book.specs.declared.names.StartingName.{StartingName}
use Rattle.semantics.specs.Uses.{Path, scope_of}
use Rattle.semantics.specs.Tokens.{Item, Variable, variable_in}
use Rattle.run_model.specs.Rows.{Row, row_of, is_body, entry_at, names_above, behind_names, path_of, path_at}
use Rattle.calls.specs.Names.{open_binder, name_count, depth_past, name_in, own_name}
use Rattle.calls.specs.NamesLaws.{or_else, next_row, Looking, looking_hit, looking_on, looking_none, Searching}
use Rattle.calls.specs.NamesLaws.{searching_end, searching_none, searching_some, open_past, depth_bound}

module _ (text : List ℕ) (T : List Row) (wanted : List ℕ) where
  -- ---- The names of one binder
  -- the nearest of those that are left, in row j
  module _ (c m i n : ℕ) (s : Looking text T wanted c m i n) (h : 0 < n) (j : ℕ) (ej : j ≡ i + 1) (t : Bool)
      (e : t ≡ same wanted (entry_at text (row_of T j)).spelling) where
    pub looking_name : t ≡ true → (d kind : ℕ) → kind ≡ (row_of T j).kind →
        Some (record { kind = kind; item = Item.declared d (n - 1) })
        ≡ name_in d (lookup_name (names_above text T m c) wanted)
    unfolding name_in
    looking_name y d kind f = rw f (ap (name_in d) (looking_hit text T wanted c m i n s h j ej t e y))

  -- ---- The binders
  -- the own opening of row i's call, then those around it
  split : (i b d : ℕ) (path : Path) →
      variable_in [] d (scope_of (behind_names text T i b path)) wanted
      ≡ or_else (own_name text T i b d wanted) (variable_in [] (depth_past b d) (scope_of path) wanted)
  unfolding behind_names scope_of variable_in name_count names_above lookup_from name_in is_body or_else
  split i zero d path = refl
  split i (suc zero) d path = refl
  split i (suc (suc n)) d path = by (lookup_name (names_above text T n i) wanted) refl
    where
      by : (f : Option StartingName) → f ≡ lookup_name (names_above text T n i) wanted →
          variable_in [] d (scope_of (behind_names text T i (suc (suc n)) path)) wanted
          ≡ or_else (name_in d f) (variable_in [] (suc d) (scope_of path) wanted)
      by (Some n) e = rw (← e, variable_in)
      by None e = rw (← e, variable_in)

  pub searching_hit : (c a i b d : ℕ) (v : Variable) → Searching text T wanted c a i b d →
      Some v ≡ own_name text T i b d wanted → Some v ≡ variable_in [] 0 (scope_of (path_at text T c a)) wanted
  unfolding or_else
  searching_hit c a i b d v s e = sym (split i b d (path_of text T i) ∙ rw (← e)) ∙ s

  pub searching_on : (c a i b d b₁ d₁ : ℕ) → length T ≡ 201 → Searching text T wanted c a i b d → i ≤ 200 →
      None ≡ own_name text T i b d wanted → b₁ ≡ open_binder (row_of T (i + 1)) → d₁ ≡ depth_past b d →
      Searching text T wanted c a (i + 1) b₁ d₁
  unfolding or_else
  searching_on c a i b d b₁ d₁ size s h e eb ed =
      rw (eb, ed)
      (ap (λ scope. variable_in [] (depth_past b d) scope wanted) (sym (next_row text T i size h))
      ∙ sym (split i b d (path_of text T i) ∙ rw (← e)) ∙ s)

-- the names of one binder
pub ruleset looking = (looking_name, looking_on, looking_none)

-- the binders
pub ruleset searching = (
  searching_hit,
  searching_on,
  searching_end,
  searching_none,
  searching_some,
  open_past,
  depth_bound,
)
