-- Laws of spans and of skipping.
--
--   leading-     of the bytes at the front of a list that pass a test (for this file alone)
--   span-        a span goes on, stops, stays within the text; all of it belongs, and what follows doesn't
--   comment-     where a comment ends, and that it is longer than nothing
--   round-       one round: where it ends, and that it leaves fewer bytes or is the last
--   skip-        skipping: `skip_stop` and `skip_on` are document 01's sentence, without a number of rounds;
--                where it ends nothing is left to skip
--
-- Not here: what stands at a place (LexemeLaws).
use Rattle.std.specs.Prelude.{◌≡◌, Bool, ltb, eqb, length, get_or, drop}
use Rattle.std.proofs.Math.Path.{refl, ap}
use Rattle.std.proofs.Common.{sym, ◌∙◌, add-one, drop_of_length-le}
use Rattle.std.proofs.Math.Bool.{true, false, not}
use mathlib.Core.List.{List, ◌∷◌}
use Prim.Native.Nat.{ℕ, zero, suc, ◌+◌, ◌-◌, ◌≤◌, ◌<◌}
use native.Mathlib.Omega.{arith}
use Rattle.std.proofs.Math.ListN.{length-drop, get_or-eq_default}
use Rattle.std.proofs.Math.Seq.{drop-cons, get_or-drop}
use Rattle.std.proofs.lemmas.List.Sums.{prefix_len_passes, prefix_len_stops, prefix_len-le-length}
use borrow.Author.Tests.{lt-ltb, le-ltb, eq-eqb, ne_eqb, eqb-true, eqb-false, ltb-true, ltb-false}
use Rattle.characters.specs.Cases.{by_test, clash}
use Rattle.characters.specs.ClassLaws.{above_space}
use Rattle.characters.specs.Classes.{is_of, class_of}
use Rattle.characters.specs.Skipping.{belongs, leading, span_end, comment_at, comment_end, round_end, skip_rounds}
use Rattle.characters.specs.Skipping.{skip_from}
use Rattle.characters.specs.declared.classes.Class.TheVariants.{Whitespace}
use Rattle.characters.specs.declared.skipping.Span.{Span}
use Rattle.characters.specs.declared.skipping.Span.TheVariants.{Spaces, Line}

-- ---- The leading bytes of a list
module _ (test : ℕ → Bool) where
  leading_on : (b : ℕ) (bs : List ℕ) → test b ≡ true → leading test (b ∷ bs) ≡ suc (leading test bs)
  unfolding leading
  leading_on b bs e = rw e (omega arith)

  leading_stop : (b : ℕ) (bs : List ℕ) → test b ≡ false → leading test (b ∷ bs) ≡ 0
  unfolding leading
  leading_stop b bs e = rw e

  leading_within : (bs : List ℕ) → leading test bs ≤ length bs
  unfolding leading
  leading_within bs = prefix_len-le-length test bs

  -- each of them passes the test
  leading_all : (bs : List ℕ) (i : ℕ) → i < leading test bs → test (get_or bs i 0) ≡ true
  unfolding leading
  leading_all bs i h = prefix_len_passes test bs i 0 h

  -- and the next one doesn't
  leading_longest : (bs : List ℕ) → leading test bs < length bs → test (get_or bs (leading test bs) 0) ≡ false
  unfolding leading
  leading_longest bs h = prefix_len_stops test bs 0 h

-- ---- Spans
module _ (span : Span) (text : List ℕ) (place : ℕ) where
  pub span_on : place < length text → belongs span (get_or text place 0) ≡ true →
      span_end span text place ≡ span_end span text (place + 1)
  unfolding span_end
  span_on h e =
      let d : leading (belongs span) (drop place text) ≡ suc (leading (belongs span) (drop (place + 1) text)) =
      rw (add-one, drop-cons text place 0 h)
      (leading_on (belongs span) (get_or text place 0) (drop (suc place) text) e) in
      omega arith

  pub span_stop : place < length text → belongs span (get_or text place 0) ≡ false → span_end span text place ≡ place
  unfolding span_end
  span_stop h e =
      let d : leading (belongs span) (drop place text) ≡ 0 =
      rw (drop-cons text place 0 h) (leading_stop (belongs span) (get_or text place 0) (drop (suc place) text) e) in
      omega arith

  -- a place beyond the end stays
  pub span_out : length text ≤ place → span_end span text place ≡ place
  unfolding span_end leading
  span_out h = rw (drop_of_length-le text h) (omega arith)

  pub span_forward : place ≤ span_end span text place
  unfolding span_end
  span_forward = omega arith

  pub span_within : place ≤ length text → span_end span text place ≤ length text
  unfolding span_end
  span_within h = omega (arith, leading_within (belongs span) (drop place text), length-drop place text)

  pub span_all : (i : ℕ) → place ≤ i → i < span_end span text place → belongs span (get_or text i 0) ≡ true
  unfolding span_end
  span_all i h l =
      let k : place + (i - place) ≡ i = omega arith in
      let t : belongs span (get_or (drop place text) (i - place) 0) ≡ true =
      leading_all (belongs span) (drop place text) (i - place) (omega arith) in
      rw (get_or-drop place text (i - place) 0, k) at t

  pub span_longest : span_end span text place < length text →
      belongs span (get_or text (span_end span text place) 0) ≡ false
  unfolding span_end
  span_longest h =
      let t : belongs span (get_or (drop place text) (leading (belongs span) (drop place text)) 0) ≡ false =
      leading_longest (belongs span) (drop place text) (omega (arith, length-drop place text)) in
      rw get_or-drop at t

-- no whitespace begins with a byte above the space; past the end there is no byte, which reads as 0
pub spaces_none : (text : List ℕ) (place : ℕ) → 32 < get_or text place 0 → span_end Spaces text place ≡ place
spaces_none text place h =
    by_test (ltb place (length text))
    (λ t. span_stop Spaces text place (ltb-true place (length text) t) (above_space (get_or text place 0) h))
    (λ t. span_out Spaces text place (ltb-false place (length text) t))

-- ---- Comments
module _ (text : List ℕ) (place : ℕ) where
  comment_forward : place ≤ comment_end text place
  unfolding comment_end
  comment_forward =
      let h = span_forward Line text place in
      by_test (ltb (span_end Line text place) (length text)) (λ e. rw e (omega arith)) (λ e. rw e h)

  comment_within : place ≤ length text → comment_end text place ≤ length text
  unfolding comment_end
  comment_within l =
      let h = span_within Line text place l in
      by_test (ltb (span_end Line text place) (length text))
      (λ e. rw e (omega (arith, ltb-true (span_end Line text place) (length text) e))) (λ e. rw e h)

  -- through the line feed, or to the end
  pub comment_on : place < length text → eqb (get_or text place 0) 10 ≡ false →
      comment_end text place ≡ comment_end text (place + 1)
  unfolding comment_end
  comment_on h e = rw (span_on Line text place h (ap not e))

  pub comment_line_feed : place < length text → eqb (get_or text place 0) 10 ≡ true → comment_end text place ≡ place + 1
  unfolding comment_end
  comment_line_feed h e = rw (span_stop Line text place h (ap not e), lt-ltb place (length text) h)

  pub comment_out : length text ≤ place → comment_end text place ≡ place
  unfolding comment_end
  comment_out h = rw (span_out Line text place h, le-ltb place (length text) h)

  pub comment_slash : comment_at text place ≡ true → get_or text place 0 ≡ 47
  unfolding comment_at
  comment_slash e = by_test (eqb (get_or text place 0) 47) (λ t. eqb-true _ _ t) (λ t. clash e (rw t))

  -- a place beyond the end has no byte, which reads as 0
  pub comment_inside : comment_at text place ≡ true → place < length text
  comment_inside e =
      by_test (ltb place (length text)) (λ t. ltb-true _ _ t)
      (λ t. absurd (omega (arith, comment_slash e, get_or-eq_default text 0 (ltb-false place (length text) t))))

  -- a comment has a byte at least
  pub comment_moves : comment_at text place ≡ true → place < comment_end text place
  unfolding comment_end
  comment_moves e =
      let inside = comment_inside e in
      let slash : belongs Line (get_or text place 0) ≡ true = rw (comment_slash e) in
      let on = span_on Line text place inside slash in
      let h = span_forward Line text (place + 1) in
      by_test (ltb (span_end Line text place) (length text)) (λ t. rw t (omega arith)) (λ t. rw t (omega arith))

-- ---- Rounds
module _ (text : List ℕ) (place : ℕ) where
  pub round_comment : comment_at text (span_end Spaces text place) ≡ true →
      round_end text place ≡ comment_end text (span_end Spaces text place)
  unfolding round_end
  round_comment e = rw (e, round_end)

  pub round_plain : comment_at text (span_end Spaces text place) ≡ false → round_end text place ≡ span_end Spaces text
      place
  unfolding round_end
  round_plain e = rw (e, round_end)

  pub round_forward : place ≤ round_end text place
  round_forward =
      let h = span_forward Spaces text place in
      by_test (comment_at text (span_end Spaces text place))
      (λ e. omega (arith, round_comment e, comment_forward text (span_end Spaces text place)))
      (λ e. omega (arith, round_plain e))

  pub round_within : place ≤ length text → round_end text place ≤ length text
  round_within l =
      let h = span_within Spaces text place l in
      by_test (comment_at text (span_end Spaces text place))
      (λ e. omega (arith, round_comment e, comment_within text (span_end Spaces text place) h))
      (λ e. omega (arith, round_plain e))

  pub round_out : length text ≤ place → round_end text place ≡ place
  round_out l =
      let h = span_out Spaces text place l in
      by_test (comment_at text (span_end Spaces text place))
      (λ e. absurd (omega (arith, comment_inside text (span_end Spaces text place) e)))
      (λ e. round_plain e ∙ h)

  -- a round that drops something leaves fewer bytes
  pub round_leaves_less : (round_end text place ≡ place → ⊥) → length text - round_end text place < length text - place
  round_leaves_less moved =
      let f = round_forward in
      by_test (ltb place (length text))
      (λ t. omega (arith, moved, ltb-true place (length text) t))
      (λ t. absurd (moved (round_out (ltb-false place (length text) t))))

  -- a round that drops nothing found no whitespace
  round_no_space : round_end text place ≡ place → span_end Spaces text place ≡ place
  round_no_space r =
      let h = span_forward Spaces text place in
      by_test (comment_at text (span_end Spaces text place))
      (λ e. omega (arith, round_comment e, comment_forward text (span_end Spaces text place)))
      (λ e. sym (round_plain e) ∙ r)

  -- and no comment
  round_no_comment : round_end text place ≡ place → comment_at text place ≡ false
  round_no_comment r =
      let s = round_no_space r in
      by_test (comment_at text place)
      (λ e. absurd (omega (arith, round_comment (rw s e), s, comment_moves text (span_end Spaces text place) (rw s e))))
      (λ e. e)

  round_no_whitespace : round_end text place ≡ place → is_of Whitespace (get_or text place 0) ≡ false
  unfolding class_of
  round_no_whitespace r =
      let s = round_no_space r in
      let f = span_forward Spaces text (place + 1) in
      by_test (ltb place (length text))
      (λ t.
      by_test (is_of Whitespace (get_or text place 0))
      (λ e. absurd (omega (arith, span_on Spaces text place (ltb-true place (length text) t) e))) (λ e. e))
      (λ t. rw (get_or-eq_default text 0 (ltb-false place (length text) t)))

-- ---- Skipping
module _ (text : List ℕ) where
  pub skip_rounds_stop : (n place : ℕ) → round_end text place ≡ place → skip_rounds n text place ≡ place
  unfolding skip_rounds
  skip_rounds_stop zero place r = refl
  skip_rounds_stop (suc n) place r = rw (eq-eqb (round_end text place) place r, skip_rounds)

  pub skip_rounds_on : (n place : ℕ) → (round_end text place ≡ place → ⊥) →
      skip_rounds (suc n) text place ≡ skip_rounds n text (round_end text place)
  unfolding skip_rounds
  skip_rounds_on n place r = rw (ne_eqb (round_end text place) place r, skip_rounds)

  -- as many rounds as bytes are left are enough
  enough : (n m place : ℕ) → length text ≤ place + n → length text ≤ place + m →
      skip_rounds n text place ≡ skip_rounds m text place
  enough zero m place h k =
      skip_rounds_stop zero place (round_out text place (omega arith))
      ∙ sym (skip_rounds_stop m place (round_out text place (omega arith)))
  enough (suc n) zero place h k =
      skip_rounds_stop (suc n) place (round_out text place (omega arith))
      ∙ sym (skip_rounds_stop zero place (round_out text place (omega arith)))
  enough (suc n) (suc m) place h k =
      let f = round_forward text place in
      by_test (eqb (round_end text place) place)
      (λ e. skip_rounds_stop (suc n) place (eqb-true _ _ e) ∙ sym (skip_rounds_stop (suc m) place (eqb-true _ _ e)))
      (λ e. let ne = eqb-false (round_end text place) place e in
      skip_rounds_on n place ne ∙ enough n m (round_end text place) (omega (arith, ne)) (omega (arith, ne))
      ∙ sym (skip_rounds_on m place ne))

  -- "repeat until a round drops nothing": these two laws say that the definition's rounds never run out
  pub skip_stop : (place : ℕ) → round_end text place ≡ place → skip_from text place ≡ place
  unfolding skip_from
  skip_stop place r = skip_rounds_stop (length text) place r

  pub skip_on : (place : ℕ) → skip_from text place ≡ skip_from text (round_end text place)
  unfolding skip_from
  skip_on place =
      let f = round_forward text place in
      by_test (eqb (round_end text place) place)
      (λ e. ap (λ (p : ℕ). skip_rounds (length text) text p) (sym (eqb-true _ _ e)))
      (λ e.
      enough (length text) (suc (length text)) place (omega arith) (omega arith)
      ∙ skip_rounds_on (length text) place (eqb-false _ _ e))

  skip_rounds_forward : (n place : ℕ) → place ≤ skip_rounds n text place
  unfolding skip_rounds
  skip_rounds_forward zero place = omega arith
  skip_rounds_forward (suc n) place =
      let h = skip_rounds_forward n (round_end text place) in
      let f = round_forward text place in
      by_test (eqb (round_end text place) place)
      (λ e. omega (arith, skip_rounds_stop (suc n) place (eqb-true _ _ e)))
      (λ e. omega (arith, skip_rounds_on n place (eqb-false _ _ e)))

  skip_rounds_within : (n place : ℕ) → place ≤ length text → skip_rounds n text place ≤ length text
  unfolding skip_rounds
  skip_rounds_within zero place l = l
  skip_rounds_within (suc n) place l =
      let h = skip_rounds_within n (round_end text place) (round_within text place l) in
      by_test (eqb (round_end text place) place)
      (λ e. omega (arith, skip_rounds_stop (suc n) place (eqb-true _ _ e)))
      (λ e. omega (arith, skip_rounds_on n place (eqb-false _ _ e)))

  skip_rounds_still : (n place : ℕ) → length text ≤ place + n →
      round_end text (skip_rounds n text place) ≡ skip_rounds n text place
  unfolding skip_rounds
  skip_rounds_still zero place h = round_out text place (omega arith)
  skip_rounds_still (suc n) place h =
      let f = round_forward text place in
      by_test (eqb (round_end text place) place)
      (λ e. rw (skip_rounds_stop (suc n) place (eqb-true _ _ e)) (eqb-true _ _ e))
      (λ e.
      let ne = eqb-false (round_end text place) place e in
      rw (skip_rounds_on n place ne) (skip_rounds_still n (round_end text place) (omega (arith, ne))))

module _ (text : List ℕ) (place : ℕ) where
  -- skipping never goes back
  pub skip_forward : place ≤ skip_from text place
  unfolding skip_from
  skip_forward = skip_rounds_forward text (length text) place

  -- and stays within the text
  pub skip_within : place ≤ length text → skip_from text place ≤ length text
  unfolding skip_from
  skip_within l = skip_rounds_within text (length text) place l

  -- a place beyond the end stays
  pub skip_out : length text ≤ place → skip_from text place ≡ place
  skip_out l = skip_stop text place (round_out text place l)

  -- from where it stands, a round drops nothing
  pub skip_still : round_end text (skip_from text place) ≡ skip_from text place
  unfolding skip_from
  skip_still = skip_rounds_still text (length text) place (omega arith)

  -- skipping twice is skipping once
  pub skip_twice : skip_from text (skip_from text place) ≡ skip_from text place
  skip_twice = skip_stop text (skip_from text place) skip_still

  -- where it stands, no comment begins
  pub skip_no_comment : comment_at text (skip_from text place) ≡ false
  skip_no_comment = round_no_comment text (skip_from text place) skip_still

  -- and no whitespace
  pub skip_no_whitespace : is_of Whitespace (get_or text (skip_from text place) 0) ≡ false
  skip_no_whitespace = round_no_whitespace text (skip_from text place) skip_still
