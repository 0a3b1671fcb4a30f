-- Laws of errors.
--
-- What is there:
--   more_than_skipped    "more than skipped text lies between" a skipped place and an error exactly if the error's
--                        place is greater
--   beyond_some, -none   so what counts beyond a skipped place is what has more than skipped text before it
--   Alike                errors that can't be told apart beyond a place: joined with others they stay alike
--                        (`alike_join`), and a choice there or further on (`alike_choice`) and a call that begins there
--                        (`alike_counted`) make the same of them
--   choice_drops         an 11 at a choice's own place drops; so that of a declared name, with argument 32, never gets
--                        past its choice (`missing_kind_drops`)
-- and of the whole run, by induction:
--   run_error_skipped    every error of a run stands at a skipped place (ErrorLaws/Skipped; what holds of every call on
--                        the way is in ErrorLaws/Gives, and what that takes of places in ErrorLaws/Places)
--   run_with_lem             "Rust's two left-recursion messages and the claimed-name message never get past this": with
--                        whatever errors for re-entries and claimed names, the run is the same (ErrorLaws/Unseen, of
--                        the run that ErrorLaws/Told has, by the relations of ErrorLaws/Like)
use Rattle.std.specs.Prelude.{◌≡◌, refl, Bool, true, cond, ◌&&◌, List, [], ◌↔◌, ℕ, ◌+◌, ◌-◌, ◌≤◌, ◌<◌, max, eqb, get_or}
use Rattle.std.specs.Prelude.{drop}
use Rattle.std.proofs.Common.{sym, ◌∙◌, arith, get_or-take, get_or-drop}
use Rattle.std.proofs.Math.Path.{ap}
use Rattle.std.proofs.Math.Bool.{false}
use Rattle.std.specs.Prelude.{Option, None, Some}
use Rattle.std.proofs.Math.Dec.{ltb}
use Rattle.std.proofs.Math.ListN.{length, length-take, get_or-eq_default}
use borrow.Author.Tests.{lt-ltb, le-ltb, ltb-true, ltb-false, ne_eqb}
use Rattle.characters.specs.Cases.{by_test}
use Rattle.characters.specs.Classes.{is_of}
use Rattle.characters.specs.Skipping.{span_end, comment_at, skip_from}
use Rattle.characters.proofs.SkippingLaws.{span_stop, span_out, round_plain, skip_stop, skip_out, skip_no_comment}
use Rattle.characters.proofs.SkippingLaws.{skip_no_whitespace}
use Rattle.characters.specs.Spelling.{part_of}
use Rattle.characters.specs.declared.classes.Class.TheVariants.{Whitespace}
use Rattle.characters.specs.declared.skipping.Span.TheVariants.{Spaces}
use Rattle.book.specs.Book.{Entry, Book, nth_variant}
use Rattle.semantics.specs.Numbers.{nonterminal_wanted, more_wanted, declared_name}
use Rattle.semantics.specs.Values.{Parse}
use Rattle.semantics.specs.Tokens.{kind_at}
use Rattle.semantics.specs.Steps.{Todo}
use Rattle.semantics.specs.Errors.{Error, error, wins, join, beyond, choice_error, declaration_error}
use Rattle.semantics.specs.Run.{ok, State, Parsed, parsed, Call, Runner, chosen, counted, name_choice}
use Rattle.semantics.proofs.Theorem.Results.{ok_inj, none_some, some_inj, after}
pub mod Places
pub mod Gives
pub mod SkippedCalls
pub mod SkippedBinders
pub mod Skipped
pub mod Told
pub mod Like
pub mod UnseenCalls
pub mod UnseenBinders
pub mod Unseen

-- ---- "more than skipped text lies between"
-- only skipped text lies between two places: the text from the first up to the second is skipped whole
abbrev pub OnlySkipped : List ℕ → ℕ → ℕ → Type 0
OnlySkipped text from to = skip_from (part_of text from (to - from)) 0 ≡ to - from

module _ (text : List ℕ) (s : ℕ) (skipped : skip_from text s ≡ s) where
  no_whitespace : is_of Whitespace (get_or text s 0) ≡ false
  no_whitespace = rw skipped at (skip_no_whitespace text s)

  no_comment : comment_at text s ≡ false
  no_comment = rw skipped at (skip_no_comment text s)

  -- a part of the text from there on isn't skipped either
  module _ (n : ℕ) (some_bytes : 0 < n) where
    first_byte : get_or (part_of text s n) 0 0 ≡ get_or text s 0
    first_byte =
        get_or-take n (drop s text) 0 0 some_bytes ∙ get_or-drop s text 0 0 ∙ ap (λ (i : ℕ). get_or text i 0)
        (omega arith)

    second_byte : 1 < n → get_or (part_of text s n) 1 0 ≡ get_or text (s + 1) 0
    second_byte h = get_or-take n (drop s text) 1 0 h ∙ get_or-drop s text 1 0

    and-false : (b : Bool) → b && false ≡ false
    and-false true = refl
    and-false false = refl

    part_comment : comment_at (part_of text s n) 0 ≡ false
    unfolding comment_at
    part_comment =
        by_test (ltb 1 n)
        (λ t. rw (first_byte, second_byte (ltb-true 1 n t)) no_comment)
        (λ t. let few : length (part_of text s n) ≤ 1 = omega (arith, length-take n (drop s text), ltb-false 1 n t) in
        rw (get_or-eq_default (part_of text s n) 0 {n = 1} few) (and-false (eqb (get_or (part_of text s n) 0 0) 47)))

    part_spaces : span_end Spaces (part_of text s n) 0 ≡ 0
    part_spaces =
        by_test (ltb 0 (length (part_of text s n)))
        (λ t. span_stop Spaces (part_of text s n) 0 (ltb-true 0 _ t) (rw first_byte no_whitespace))
        (λ t. span_out Spaces (part_of text s n) 0 (ltb-false 0 _ t))

    part_stays : skip_from (part_of text s n) 0 ≡ 0
    part_stays =
        skip_stop (part_of text s n) 0 (round_plain (part_of text s n) 0 (rw part_spaces part_comment) ∙ part_spaces)

  pub more_than_skipped : (e : ℕ) → (s < e) ↔ (OnlySkipped text s e → ⊥)
  more_than_skipped e = (
    λ less only. omega (arith, part_stays (e - s) (omega arith), only),
    λ more. by_test (ltb s e) (λ t. ltb-true s e t) (λ t. absurd (more (nothing (ltb-false s e t)))),
  )
    where
      nothing : e ≤ s → OnlySkipped text s e
      nothing h =
          let none_between : e - s ≡ 0 = omega arith in
          rw none_between (skip_out [] 0 (omega arith))

  pub beyond_some : (e : Error) → (OnlySkipped text s e.place → ⊥) → beyond s e ≡ Some e
  unfolding beyond
  beyond_some e more = rw (lt-ltb s e.place ((more_than_skipped e.place).1 more))

  pub beyond_none : (e : Error) → OnlySkipped text s e.place → beyond s e ≡ None
  unfolding beyond
  beyond_none e only =
      by_test (ltb s e.place)
      (λ t. absurd ((more_than_skipped e.place).0 (ltb-true s e.place t) only)) (λ t. rw t)

-- ---- Errors that can't be told apart beyond a place
-- they stand at one place, and beyond the given one they are the same
pub record Alike (place : ℕ) (a b : Error) : Type 0 where
  pub at : a.place ≡ b.place
  pub beyond_it : place < a.place → a ≡ b

-- the further of two errors wins
join_further : (a b : Error) → a.place < b.place → join a b ≡ b
unfolding join
join_further a b h = rw (le-ltb b.place a.place (omega arith), ne_eqb a.place b.place (omega arith))

join_nearer : (a b : Error) → b.place < a.place → join a b ≡ a
unfolding join
join_nearer a b h = rw (lt-ltb b.place a.place h)

-- at one place, either
join_level : (a b : Error) → a.place ≡ b.place → (join a b).place ≡ a.place
unfolding join
join_level a b h = by (wins a b)
  where
    by : (t : Bool) → (cond t a b).place ≡ a.place
    by true = refl
    by false = sym h

join_place : (a b : Error) → (join a b).place ≡ max a.place b.place
join_place a b =
    by_test (ltb a.place b.place)
    (λ t.
    let less = ltb-true a.place b.place t in ap (λ (e : Error). e.place) (join_further a b less) ∙ omega arith)
    (λ t. let least = ltb-false a.place b.place t in
    by_test (ltb b.place a.place)
    (λ u.
    let less = ltb-true b.place a.place u in ap (λ (e : Error). e.place) (join_nearer a b less) ∙ omega arith)
    (λ u.
    let most = ltb-false b.place a.place u in let level : a.place ≡ b.place = omega arith in
    join_level a b level ∙ omega arith))

module _ (place : ℕ) where
  pub alike_join : (a b c d : Error) → Alike place a b → Alike place c d → Alike place (join a c) (join b d)
  alike_join a b c d h k =
      let first = h.at in
      let second = k.at in
      let left = join_place a c in
      let right = join_place b d in
      record { at = omega arith; beyond_it = λ far. by far (ltb place a.place) refl (ltb place c.place) refl }
    where
      by : place < (join a c).place → (s : Bool) → ltb place a.place ≡ s → (t : Bool) →
          ltb place c.place ≡ t → join a c ≡ join b d
      by far true s true t =
          let e = h.beyond_it (ltb-true place a.place s) in let f = k.beyond_it (ltb-true place c.place t) in cc
      by far true s false t =
          let e = h.beyond_it (ltb-true place a.place s) in
          let less : c.place < a.place = omega (arith, ltb-true place a.place s, ltb-false place c.place t) in
          let less' : d.place < b.place = omega (arith, h.at, k.at) in
          join_nearer a c less ∙ e ∙ sym (join_nearer b d less')
      by far false s true t =
          let f = k.beyond_it (ltb-true place c.place t) in
          let less : a.place < c.place = omega (arith, ltb-false place a.place s, ltb-true place c.place t) in
          let less' : b.place < d.place = omega (arith, h.at, k.at) in
          join_further a c less ∙ f ∙ sym (join_further b d less')
      by far false s false t =
          absurd (omega (arith, join_place a c, ltb-false place a.place s, ltb-false place c.place t))

  pub alike_beyond : (a b : Error) → Alike place a b → beyond place a ≡ beyond place b
  unfolding beyond
  alike_beyond a b h =
      by_test (ltb place a.place)
      (λ t. ap (beyond place) (h.beyond_it (ltb-true place a.place t)))
      (λ t. let u : ltb place b.place ≡ false = ap (ltb place) (sym h.at) ∙ t in rw (t, u))

alike_further : {place further : ℕ} {a b : Error} → place ≤ further → Alike place a b → Alike further a b
alike_further l h = record { at = h.at; beyond_it = λ far. h.beyond_it (omega arith) }

-- a choice at the place, or further on
pub alike_choice : (place at N : ℕ) (a b c d : Error) → place ≤ at → Alike place a b → Alike place c d →
    choice_error at N a c ≡ choice_error at N b d
unfolding choice_error
alike_choice place at N a b c d l h k =
    rw (
      alike_beyond at (join a c) (join b d) (alike_join at a b c d (alike_further l h) (alike_further l k)),
      choice_error,
    )

-- a call that begins at the place
pub alike_counted : (book : Book) (text : List ℕ) (c : Call) (j : ℕ) (a b : Error) → Alike c.start a b →
    counted book text c j (Some a) ≡ counted book text c j (Some b)
unfolding counted
alike_counted book text c j a b h =
    ap (λ (o : Option Error). cond (nth_variant book j).committed o None) (alike_beyond c.start a b h)

-- ---- What a choice drops
-- a choice gives 12 at its place, or an error beyond it
choice_cases : {X : Type 0} (at N : ℕ) (a b : Error) → (choice_error at N a b ≡ error at more_wanted N → X) →
    (at < (choice_error at N a b).place → X) → X
unfolding choice_error beyond
choice_cases at N a b f g =
    by_test (ltb at (join a b).place) (λ t. g (rw (t, choice_error, beyond) (ltb-true at (join a b).place t)))
    (λ t. f (rw (t, choice_error, beyond)))

-- so no 11 that stands there
pub choice_drops : (at N argument : ℕ) (a b : Error) → choice_error at N a b ≡ error at nonterminal_wanted argument → ⊥
choice_drops at N argument a b e =
    choice_cases at N a b
    (λ is. let same : more_wanted ≡ nonterminal_wanted = ap (λ (d : Error). d.kind) (sym is ∙ e) in omega arith)
    (λ far. let there = ap (λ (d : Error). d.place) e in omega arith)

chosen_drops : (c : Call) (at argument : ℕ) (o : Option Error) (b : Parsed) →
    (chosen c at o b).failure ≡ Some (error at nonterminal_wanted argument) → ⊥
unfolding chosen
chosen_drops c at argument None b e = none_some e
chosen_drops c at argument (Some a) b e = by b.failure refl e
  where
    by : (o : Option Error) → b.failure ≡ o →
        (elim o as (λ _. Parsed) [
          | None ↦ b
          | Some d ↦ parsed b.set (Some (choice_error at c.nonterminal a d)) b.state
        ]).failure ≡ Some (error at nonterminal_wanted argument) → ⊥
    by None n e = none_some (sym n ∙ e)
    by (Some d) n e = choice_drops at c.nonterminal argument a d (some_inj e)

-- a declared name whose kind's word is missing fails where its choice is made: the choice never hands that error on
pub missing_kind_drops : (book : Book) (text : List ℕ) (inner : Option Runner) (c : Call) (j : ℕ) (names : List Entry)
    (kinds close M : ℕ) (rest : List (Todo ℕ)) (x items : ℕ) (set : List (Parse ℕ)) (s : State) (r : Parsed) →
    kind_at book text (skip_from text x) ≡ None →
    name_choice book text inner c j names kinds close M rest x items set s ≡ ok r →
    r.failure ≡ Some (declaration_error book text (skip_from text x)) → ⊥
unfolding name_choice declaration_error
missing_kind_drops book text inner c j names kinds close M rest x items set s r missing e failed =
    after _ _ e (λ t spent e₁. after _ _ e₁ (λ a opened e₂. after _ _ e₂ (λ b declared is.
    chosen_drops c (skip_from text x) declared_name a.failure b
    (ap (λ (d : Parsed). d.failure) (ok_inj is) ∙ rw (missing, declaration_error) at failed))))
