-- What the definitions over rows give, by tests of the numbers of a row; and where the searches over the rows start and
-- end. They follow from the definitions alone.
--
-- Contents:
-- - the table: table_below, row_else
-- - governors: not_live, not_same, by_child; openings: scope_idle, scope_live; the search: seeking_start, seeking_end
-- - claims: claims_live, claims_start, claims_mark, claims_body, claims_beside; the search: asking_start, asking_end
-- - binders: count_none, count_some, depth_same, depth_more, open_live, open_idle
-- - names: searching_start, counting_start; room for further names: no_room_lem, room_left
use Rattle.std.specs.Prelude.{◌≡◌, Bool, ◌&&◌, List, eqb, leb, set, length}
use Rattle.std.proofs.Math.Path.{refl, sym, ap}
use Rattle.std.proofs.Common.{◌∙◌, get_or-set_other, leb-true, leb-false}
use Rattle.std.proofs.lemmas.Bool.{lt-leb}
use Rattle.std.proofs.Math.Bool.{true, false}
use Prim.Native.Nat.{ℕ, zero, suc, ◌+◌, ◌-◌, ◌<◌, ◌≤◌}
use native.Mathlib.Omega.{arith}
use borrow.Author.Tests.{eq-eqb, ne_eqb, le-leb}
use Rattle.characters.specs.Cases.{by_test}
use Rattle.book.specs.Book.{Book}
use Rattle.semantics.specs.Uses.{has_mark}
use Rattle.semantics.specs.Run.{declared_names}
use Rattle.run_model.specs.Rows.{Row, no_row, row_of, is_body, begins_scope, governs, newest_governor, claims}
use Rattle.run_model.specs.Rows.{any_claims, claims_use, scope_at, scope_in}
use Rattle.calls.specs.Table.{table}
use Rattle.calls.specs.TableLaws.{table_length}
use Rattle.calls.specs.Names.{open_binder, name_count, depth_past}
use Rattle.calls.specs.CallLaws.{Seeking, Asking, newest_none, any_none}
use Rattle.calls.specs.NamesLaws.{Searching, Counting}

-- ---- The table
pub table_below : (f : List ℕ) (c : ℕ) → c ≤ 200 → c < length (table f)
table_below f c h = rw (table_length f) (omega arith)

pub row_else : (T : List Row) (c d : ℕ) (r : Row) → (d ≡ c → ⊥) → row_of (set T c r) d ≡ row_of T d
row_else T c d r h = get_or-set_other T c d r no_row h

-- ---- Governors
module _ (r : Row) (N u : ℕ) where
  pub not_live : (a : ℕ) → a ≡ r.live → (a ≡ 1 → ⊥) → false ≡ governs r N u
  unfolding governs
  not_live a e h = rw (ne_eqb r.live 1 (λ z. h (e ∙ z)))

  pub not_same : (a b : ℕ) → a ≡ r.live → a ≡ 1 → b ≡ r.nonterminal → (b ≡ N → ⊥) → false ≡ governs r N u
  unfolding governs
  not_same a b e h f k = rw (eq-eqb r.live 1 (sym e ∙ h), ne_eqb r.nonterminal N (λ z. k (f ∙ z)))

  pub by_child : (a b x : ℕ) → a ≡ r.live → a ≡ 1 → b ≡ r.nonterminal → b ≡ N → x ≡ r.child →
      eqb x u ≡ governs r N u
  unfolding governs
  by_child a b x e h f k m = rw (eq-eqb r.live 1 (sym e ∙ h), eq-eqb r.nonterminal N (sym f ∙ k), m)

module _ (r : Row) where
  pub scope_idle : (a : ℕ) → a ≡ r.live → (a ≡ 1 → ⊥) → false ≡ begins_scope r
  unfolding begins_scope
  scope_idle a e h = rw (ne_eqb r.live 1 (λ z. h (e ∙ z)))

  pub scope_live : (a b : ℕ) (t : Bool) → a ≡ r.live → a ≡ 1 → b ≡ r.binder → t ≡ is_body b → t ≡ begins_scope r
  unfolding begins_scope
  scope_live a b t e h f k = k ∙ rw (eq-eqb r.live 1 (sym e ∙ h), f)

module _ (T : List Row) (N u : ℕ) where
  pub seeking_start : (n : ℕ) → Seeking T N u n (n + 1)
  seeking_start n =
      let a : 201 - (n + 1) ≡ 200 - n = omega arith in
      let b : n + 1 ≡ suc n = omega arith in
      rw (a, b)

  pub seeking_end : (n i : ℕ) → Seeking T N u n i → 200 < i → i ≡ newest_governor T N u (200 - n) (suc n)
  seeking_end n i s h =
      let a : 201 - i ≡ 0 = omega arith in
      sym (rw a (newest_none T N u i)) ∙ s

-- ---- Claims
module _ (book : Book) (r : Row) (u : ℕ) where
  unmarked : (b : Bool) → (b && false) ≡ false
  unmarked true = refl
  unmarked false = refl

  pub claims_live : (a : ℕ) → a ≡ r.live → (a ≡ 1 → ⊥) → false ≡ claims book r u
  unfolding claims
  claims_live a e h = rw (ne_eqb r.live 1 (λ z. h (e ∙ z)))

  pub claims_start : (a b : ℕ) → a ≡ r.live → a ≡ 1 → b ≡ r.start → (b ≡ u → ⊥) → false ≡ claims book r u
  unfolding claims
  claims_start a b e h f k =
      rw (
        eq-eqb r.live 1 (sym e ∙ h),
        ne_eqb r.start u (λ z. k (f ∙ z)),
        unmarked (has_mark book 1 r.nonterminal),
      )

  pub claims_mark : (a b N : ℕ) (t : Bool) → a ≡ r.live → a ≡ 1 → b ≡ r.start → b ≡ u → N ≡ r.nonterminal →
      t ≡ has_mark book 1 N → t ≡ claims book r u
  unfolding claims
  claims_mark a b N t e h f k m q =
      q ∙ rw (eq-eqb r.live 1 (sym e ∙ h), eq-eqb r.start u (sym f ∙ k), m)
      (both (has_mark book 1 r.nonterminal))
    where
      both : (b : Bool) → b ≡ (b && true)
      both true = refl
      both false = refl

module _ (book : Book) (T : List Row) (u : ℕ) where
  pub asking_start : (n : ℕ) → Asking book T u n (n + 1)
  asking_start n =
      let a : 201 - (n + 1) ≡ 200 - n = omega arith in
      let b : n + 1 ≡ suc n = omega arith in
      rw (a, b)

  pub asking_end : (n i : ℕ) → Asking book T u n i → 200 < i → false ≡ any_claims book T u (200 - n) (suc n)
  asking_end n i s h =
      let a : 201 - i ≡ 0 = omega arith in
      sym (rw a (any_none book T u i)) ∙ s

  pub claims_body : (n b : ℕ) (t : Bool) → t ≡ is_body b → t ≡ true → false ≡ claims_use book T n b u
  claims_body n b t e h = rw (← e, h)

  pub claims_beside : (n b : ℕ) (t w : Bool) → t ≡ is_body b → t ≡ false →
      w ≡ any_claims book T u (200 - n) (suc n) → w ≡ claims_use book T n b u
  claims_beside n b t w e h f = f ∙ rw (← e, h)

-- ---- Binders
pub count_none : (b : ℕ) → b < 2 → 0 ≡ name_count b
unfolding name_count
count_none zero h = refl
count_none (suc zero) h = refl
count_none (suc (suc n)) h = absurd (omega arith)

pub count_some : (b : ℕ) → 2 ≤ b → b - 2 ≡ name_count b
unfolding name_count
count_some zero h = absurd (omega arith)
count_some (suc zero) h = absurd (omega arith)
count_some (suc (suc n)) h = omega arith

pub depth_same : (b d : ℕ) → b < 2 → d ≡ depth_past b d
unfolding is_body
depth_same zero d h = refl
depth_same (suc zero) d h = refl
depth_same (suc (suc n)) d h = absurd (omega arith)

pub depth_more : (b d : ℕ) → 2 ≤ b → d + 1 ≡ depth_past b d
unfolding is_body
depth_more zero d h = absurd (omega arith)
depth_more (suc zero) d h = absurd (omega arith)
depth_more (suc (suc n)) d h = omega arith

pub open_live : (r : Row) (a b : ℕ) → a ≡ r.live → a ≡ 1 → b ≡ r.binder → b ≡ open_binder r
open_live r a b e h f = f ∙ rw (eq-eqb r.live 1 (sym e ∙ h))

pub open_idle : (r : Row) (a : ℕ) → a ≡ r.live → (a ≡ 1 → ⊥) → 0 ≡ open_binder r
open_idle r a e h = rw (ne_eqb r.live 1 (λ z. h (e ∙ z)))

-- ---- Names
pub searching_start : (text : List ℕ) (T : List Row) (wanted : List ℕ) (c a : ℕ) → Searching text T wanted c a c a 0
searching_start text T wanted c a = refl

pub counting_start : (text : List ℕ) (T : List Row) (c a : ℕ) → Counting text T c a c a 0
counting_start text T c a = omega arith

pub no_room_lem : (names around : ℕ) → 64 < names → false ≡ leb (names + around) 64
no_room_lem names around h = sym (lt-leb (names + around) 64 (omega arith))

leaves_room : (names around : ℕ) → names ≤ 64 → leb around (64 - names) ≡ leb (names + around) 64
leaves_room names around h =
    by_test (leb around (64 - names))
    (λ t. t ∙ sym (le-leb (names + around) 64 (let l = leb-true around (64 - names) t in omega arith)))
    (λ t. t ∙ sym (lt-leb (names + around) 64 (let l = leb-false around (64 - names) t in omega arith)))

pub room_left : (text : List ℕ) (T : List Row) (i binder names around : ℕ) → names ≤ 64 → binder ≡ (row_of T i).binder →
    around ≡ declared_names (scope_at text T i binder) →
    leb around (64 - names) ≡ leb (names + declared_names (scope_in text T i)) 64
room_left text T i binder names around h is count =
    leaves_room names around h
    ∙ ap (λ k. leb (names + k) 64) (count ∙ ap (λ b. declared_names (scope_at text T i b)) is)
