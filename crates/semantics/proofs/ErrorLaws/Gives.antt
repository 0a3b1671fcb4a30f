-- What holds on the way of a run: errors stand at skipped places (`Fails`); a call begins at one, and no use around it
-- begins later (`Around`); no parse of a set ends before a place (`Behind`). What a part of the run gives has the first
-- and the last (`Gives`).
use Rattle.std.specs.Prelude.{◌≡◌, Bool, cond, List, [], ℕ, ◌≤◌, ltb}
use Rattle.std.proofs.Common.{sym, subst}
use Rattle.std.proofs.Math.Bool.{true, false}
use mathlib.Core.List.Memᴰ
use Rattle.std.specs.Prelude.{Option, None, Some}
use Rattle.characters.specs.Skipping.{skip_from}
use Rattle.book.specs.Book.{Entry, Book, nth_variant}
use Rattle.semantics.specs.Numbers.{more_wanted}
use Rattle.semantics.specs.Values.{Parse}
use Rattle.semantics.specs.Uses.{Use, Path, within, behind_any}
use Rattle.semantics.specs.Errors.{Error, error, wins, join, join_with, beyond, choice_error}
use Rattle.semantics.specs.Run.{ok, State, Parsed, parsed, Call, add, add_all, failed_call, either as eitherError}
use Rattle.semantics.specs.Run.{chosen, counted}
use Rattle.semantics.proofs.Theorem.Lists.{◌∈◌, nth, either}
use Rattle.semantics.proofs.Theorem.Results.{ok_inj}
use Rattle.semantics.proofs.Theorem.Sets.{add_joins, add_all_joins}
use Rattle.semantics.proofs.Theorem.Sound.{At}
use Rattle.semantics.proofs.ErrorLaws.Places.{behind_any_in, behind_any_at}

module _ (text : List ℕ) where
  -- a skipped place
  abbrev pub Skipped : ℕ → Type 0
  Skipped x = skip_from text x ≡ x

  -- an error, if there is one, stands at such a place
  pub data Fails : Option Error → Type 0 where
    no_error_lem : Fails None
    an_error : {e : Error} → Skipped e.place → Fails (Some e)

  -- ---- What becomes of errors
  join_skipped : (a b : Error) → Skipped a.place → Skipped b.place → Skipped (join a b).place
  unfolding join
  join_skipped a b h k = by (wins a b)
    where
      by : (t : Bool) → Skipped (cond t a b).place
      by true = h
      by false = k

  beyond_fails : (place : ℕ) (e : Error) → Skipped e.place → Fails (beyond place e)
  unfolding beyond
  beyond_fails place e h = by (ltb place e.place)
    where
      by : (t : Bool) → Fails (cond t (Some e) None)
      by true = an_error h
      by false = no_error_lem

  pub join_with_fails : (a b : Option Error) → Fails a → Fails b → Fails (join_with a b)
  unfolding join_with
  join_with_fails None b h k = k
  join_with_fails (Some a) None h k = h
  join_with_fails (Some a) (Some b) (an_error h) (an_error k) = an_error (join_skipped a b h k)

  pub either_fails : (a b : Option Error) → Fails a → Fails b → Fails (eitherError a b)
  unfolding eitherError
  either_fails None b h k = no_error_lem
  either_fails (Some a) None h k = no_error_lem
  either_fails (Some a) (Some b) (an_error h) (an_error k) = an_error (join_skipped a b h k)

  choice_skipped : (at N : ℕ) (a b : Error) → Skipped at → Skipped a.place → Skipped b.place →
      Skipped (choice_error at N a b).place
  unfolding choice_error
  choice_skipped at N a b h k l = by (beyond at (join a b)) (beyond_fails at (join a b) (join_skipped a b k l))
    where
      by : (o : Option Error) → Fails o →
          Skipped (elim o as (λ _. Error) [ Some e ↦ e | None ↦ error at more_wanted N ]).place
      by None no_error_lem = h
      by (Some e) (an_error f) = f

  pub failed_call_skipped : (c : Call) (o : Option Error) → Skipped c.start → Fails o →
      Skipped (failed_call c o).place
  unfolding failed_call
  failed_call_skipped c None h no_error_lem = h
  failed_call_skipped c (Some e) h (an_error k) = k

  pub counted_fails : (book : Book) (c : Call) (j : ℕ) (o : Option Error) → Fails o → Fails (counted book text c j o)
  unfolding counted
  counted_fails book c j None no_error_lem = no_error_lem
  counted_fails book c j (Some e) (an_error h) = by (nth_variant book j).committed
    where
      by : (t : Bool) → Fails (cond t (beyond c.start e) None)
      by true = beyond_fails c.start e h
      by false = no_error_lem

  -- ---- What holds on the way
  -- no parse of a set ends before a place
  abbrev pub Behind : ℕ → List (Parse ℕ) → Type 0
  Behind u set = (p : Parse ℕ) → p ∈ set → u ≤ p.rest

  -- what a part of the run gives that began at a place or further on
  pub record Gives (u : ℕ) (r : Parsed) : Type 0 where
    pub set : Behind u r.set
    pub failure : Fails r.failure

  -- the uses around a call at a place, with their stored sets
  pub record Around (P : Path) (S : List (List (Parse ℕ))) (u : ℕ) : Type 0 where
    pub skipped : Skipped u
    pub starts : (f : Use) → within f ∈ P → f.start ≤ u
    pub stored : (i : ℕ) (f : Use) (Q : Path) → At P i f Q → Behind f.start (nth S i)

  pub record Ready (c : Call) : Type 0 where
    pub around : Around c.path c.stored c.start
    pub mine : Behind c.start c.mine

  pub nothing_behind : {u : ℕ} → Behind u []
  nothing_behind p m = absurd (Memᴰ.not-nil m)

  pub behind_add : {u : ℕ} (s : State) (set : List (Parse ℕ)) (p : Parse ℕ) {more : List (Parse ℕ)} →
      add s set p ≡ ok more → Behind u set → u ≤ p.rest → Behind u more
  behind_add {u} s set p e b l q m =
      either ((add_joins s set p e).out q m) (λ n. b q n)
      (λ n. subst (λ (z : Parse ℕ). u ≤ z.rest) (sym (Memᴰ.eq_of_singleton n)) l)

  pub behind_all : {u : ℕ} (s : State) (set ps : List (Parse ℕ)) {all : List (Parse ℕ)} → add_all s set ps ≡ ok all →
      Behind u set → Behind u ps → Behind u all
  behind_all s set ps e b k q m = either ((add_all_joins s set ps e).out q m) (λ n. b q n) (λ n. k q n)

  pub gives_ok : {u : ℕ} {a r : Parsed} → ok a ≡ ok r → Gives u a → Gives u r
  gives_ok {u} e g = subst (Gives u) (ok_inj e) g

  pub gives_set : {u : ℕ} {set : List (Parse ℕ)} {s : State} → Behind u set → Gives u (parsed set None s)
  gives_set b = record { set = b; failure = no_error_lem }

  pub gives_error : {u : ℕ} {set : List (Parse ℕ)} {e : Error} {s : State} → Behind u set → Skipped e.place →
      Gives u (parsed set (Some e) s)
  gives_error b h = record { set = b; failure = an_error h }

  pub chosen_gives : {u : ℕ} (c : Call) (at : ℕ) (o : Option Error) (b : Parsed) → Skipped at → Fails o → Gives u b →
      Gives u (chosen c at o b)
  unfolding chosen
  chosen_gives c at None b h no_error_lem g = gives_set g.set
  chosen_gives {u} c at (Some a) b h (an_error k) g = by b.failure g.failure
    where
      by : (o : Option Error) → Fails o → Gives u
          (elim o [ None ↦ b | Some e ↦ parsed b.set (Some (choice_error at c.nonterminal a e)) b.state ])
      by None no_error_lem = g
      by (Some e) (an_error l) = gives_error g.set (choice_skipped at c.nonterminal a e h k l)

  -- a body stands in the same uses as its opening
  pub around_any : (opening : Option (List Entry)) {P : Path} {S : List (List (Parse ℕ))} {u : ℕ} → Around P S u →
      Around (behind_any opening P) S u
  around_any opening h = record {
    skipped = h.skipped;
    starts = λ f m. h.starts f (behind_any_in opening m);
    stored = λ i f Q a. h.stored i f Q (behind_any_at opening a);
  }

  -- a run's own call stands in none
  pub around_none : {u : ℕ} → Skipped u → Around [] [] u
  around_none skipped = record {
    skipped = skipped;
    starts = λ f m. absurd (Memᴰ.not-nil m);
    stored = λ i f Q a. absurd (nowhere a);
  }
    where
      nowhere : {i : ℕ} {f : Use} {Q : Path} → At [] i f Q → ⊥
      nowhere a = elim a [ ]
