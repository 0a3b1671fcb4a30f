-- Lists that are cleared and filled, whole parses and high bytes: a law for each turn and each end of a loop, or for
-- what the library's method gives.
--
-- Contents:
-- - zeros, and numbers before them: written_zeros, written_over
-- - parses: parses_first, parses_again
-- - whole parses: values_again, values_end, by_values_is
-- - high bytes: high_at
use Rattle.std.specs.Prelude.{◌≡◌, refl, Bool, true, false, cond, List, [], ◌∷◌, ◌++◌, ℕ, zero, suc, ◌+◌, ◌*◌, ◌<◌}
use Rattle.std.specs.Prelude.{◌≤◌, eqb, length, get_or, take, drop, set, replicate, leb}
use Rattle.std.specs.List.{position, position_from}
use Rattle.std.proofs.lemmas.Iterator.Adapters.{position_from-zero}
use Rattle.std.proofs.Common.{sym, ap, ◌∙◌, arith, add-one, length-append, drop_of_length-le, take-suc}
use Rattle.std.proofs.Common.{length-take-le}
use Rattle.std.proofs.Math.Seq.{drop-cons}
use Rattle.std.proofs.lemmas.List.{take-replicate}
use Rattle.characters.specs.Cases.{by_test}
use Rattle.book.specs.Book.{associativity_number}
use Rattle.semantics.specs.Values.{Parse, absent_parse, whole}
use Rattle.semantics.specs.Tokens.{when}
use Rattle.semantics.specs.Run.{Parsed}
use Rattle.semantics.specs.Answer.{answer, written, parse_numbers, whole_values, all_are, first_high, filled, by_values}
use Rattle.sets.specs.Sets as sets
use Rattle.run.specs.declared.whole.Values.{Values}
use Rattle.run.specs.Reading.{with_value, with_values, with_parse, end_answer}

-- ---- Zeros, and numbers before them
pub written_zeros : (size : ℕ) (lent : List ℕ) → written size [] lent ≡ replicate size 0 ++ drop size lent
unfolding written
written_zeros size lent = rw (take-replicate {X = ℕ} size size 0 (omega arith))

before_zeros : (numbers : List ℕ) (size k : ℕ) (beyond : List ℕ) → length numbers ≤ size → size ≤ length numbers + k →
    numbers ++ drop (length numbers) (replicate size 0 ++ beyond) ≡ take size (numbers ++ replicate k 0) ++ beyond
before_zeros [] size k beyond h room = rw (take-replicate {X = ℕ} size k 0 (omega arith))
before_zeros (n ∷ numbers) zero k beyond h room = absurd (omega arith)
before_zeros (n ∷ numbers) (suc size) k beyond h room =
    ap (λ (l : List ℕ). n ∷ l) (before_zeros numbers size k beyond (omega arith) (omega arith))

pub written_over : (size : ℕ) (numbers lent : List ℕ) → length numbers ≤ size →
    numbers ++ drop (length numbers) (written size [] lent) ≡ written size numbers lent
unfolding written
written_over size numbers lent h =
    ap (λ (l : List ℕ). numbers ++ drop (length numbers) l) (written_zeros size lent)
    ∙ before_zeros numbers size size (drop size lent) h (omega arith)

-- ---- One number more
more : (numbers : List ℕ) (size k x : ℕ) (beyond : List ℕ) → length numbers < size → size ≤ length numbers + k →
    set (take size (numbers ++ replicate k 0) ++ beyond) (length numbers) x
    ≡ take size ((numbers ++ (x ∷ [])) ++ replicate k 0) ++ beyond
more numbers zero k x beyond h room = absurd (omega arith)
more [] (suc size) zero x beyond h room = absurd (omega arith)
more [] (suc size) (suc k) x beyond h room =
    ap (λ (zeros : List ℕ). x ∷ (zeros ++ beyond))
    (take-replicate {X = ℕ} size k 0 (omega arith) ∙ sym (take-replicate {X = ℕ} size (suc k) 0 (omega arith)))
more (n ∷ numbers) (suc size) k x beyond h room =
    ap (λ (l : List ℕ). n ∷ l) (more numbers size k x beyond (omega arith) (omega arith))

module _ (size : ℕ) (lent : List ℕ) where
  pub written_more : (numbers : List ℕ) (at x : ℕ) → length numbers ≡ at → at < size →
      set (written size numbers lent) at x ≡ written size (numbers ++ (x ∷ [])) lent
  unfolding written
  written_more numbers at x e h = rw (← e) (more numbers size size x (drop size lent) (omega arith) (omega arith))

  snoc_four : (numbers : List ℕ) (a b c d : ℕ) →
      (((numbers ++ (a ∷ [])) ++ (b ∷ [])) ++ (c ∷ [])) ++ (d ∷ []) ≡ numbers ++ (a ∷ b ∷ c ∷ d ∷ [])
  snoc_four [] a b c d = refl
  snoc_four (n ∷ numbers) a b c d = ap (λ (l : List ℕ). n ∷ l) (snoc_four numbers a b c d)

  one_longer : (numbers : List ℕ) (x n : ℕ) → length numbers ≡ n → length (numbers ++ (x ∷ [])) ≡ n + 1
  one_longer numbers x n e = omega (arith, length-append numbers (x ∷ []))

  written_four : (numbers : List ℕ) (at : ℕ) (p : Parse ℕ) → length numbers ≡ at → at + 4 ≤ size →
      sets.put_parse (written size numbers lent) at p ≡
      written size (numbers ++ (p.rest ∷ p.level ∷ associativity_number p.associativity ∷ p.value ∷ [])) lent
  written_four numbers at p e h =
      let a : ℕ = p.rest in
      let b : ℕ = p.level in
      let c : ℕ = associativity_number p.associativity in
      let d : ℕ = p.value in
      let one : List ℕ = numbers ++ (a ∷ []) in
      let two : List ℕ = one ++ (b ∷ []) in
      let three : List ℕ = two ++ (c ∷ []) in
      let l₁ : length one ≡ at + 1 = one_longer numbers a at e in
      let l₂ : length two ≡ at + 2 = omega (arith, one_longer one b (at + 1) l₁) in
      let l₃ : length three ≡ at + 3 = omega (arith, one_longer two c (at + 2) l₂) in
      ap (λ (l : List ℕ). set (set (set l (at + 1) b) (at + 2) c) (at + 3) d)
      (written_more numbers at a e (omega arith))
      ∙ ap (λ (l : List ℕ). set (set l (at + 2) c) (at + 3) d) (written_more one (at + 1) b l₁ (omega arith))
      ∙ ap (λ (l : List ℕ). set l (at + 3) d) (written_more two (at + 2) c l₂ (omega arith))
      ∙ written_more three (at + 3) d l₃ (omega arith)
      ∙ ap (λ (l : List ℕ). written size l lent) (snoc_four numbers a b c d)

-- ---- Parses
parse_numbers_length : (ps : List (Parse ℕ)) → length (parse_numbers ps) ≡ 4 * length ps
unfolding parse_numbers
parse_numbers_length [] = refl
parse_numbers_length (p ∷ ps) = omega (arith, parse_numbers_length ps)

parse_numbers_snoc : (ps : List (Parse ℕ)) (p : Parse ℕ) →
    parse_numbers (ps ++ (p ∷ []))
    ≡ parse_numbers ps ++ (p.rest ∷ p.level ∷ associativity_number p.associativity ∷ p.value ∷ [])
unfolding parse_numbers
parse_numbers_snoc [] p = refl
parse_numbers_snoc (q ∷ ps) p =
    ap (λ (l : List ℕ). q.rest ∷ q.level ∷ associativity_number q.associativity ∷ q.value ∷ l)
    (parse_numbers_snoc ps p)

pub parses_first : (size : ℕ) (lent : List ℕ) (ps : List (Parse ℕ)) →
    written size [] lent ≡ written size (parse_numbers (take 0 ps)) lent
unfolding parse_numbers
parses_first size lent ps = refl

pub parses_again : (size : ℕ) (lent : List ℕ) (ps : List (Parse ℕ)) (i : ℕ) (p : Parse ℕ) → i < length ps →
    4 * i + 4 ≤ size → p ≡ get_or ps i absent_parse →
    sets.put_parse (written size (parse_numbers (take i ps)) lent) (4 * i) p
    ≡ written size (parse_numbers (take (i + 1) ps)) lent
parses_again size lent ps i p h room e =
    let l : length (take i ps) ≡ i = length-take-le i ps (omega arith) in
    written_four size lent (parse_numbers (take i ps)) (4 * i) p (omega (arith, parse_numbers_length (take i ps))) room
    ∙ ap (λ (numbers : List ℕ). written size numbers lent)
    (sym (parse_numbers_snoc (take i ps) p) ∙ ap (λ (q : Parse ℕ). parse_numbers (take i ps ++ (q ∷ []))) e
    ∙ ap parse_numbers (sym (take-suc ps i absent_parse h)))
    ∙ rw (add-one i)

-- ---- Whole parses
pub values_again : (text : List ℕ) (ps : List (Parse ℕ)) (i : ℕ) (values more : Values) (p : Parse ℕ) → i < length ps →
    p ≡ get_or ps i absent_parse → more ≡ with_parse text values p →
    with_values more (whole_values text (drop (i + 1) ps)) ≡ with_values values (whole_values text (drop i ps))
unfolding whole_values with_values
values_again text ps i values more p h e t =
    by_test (whole text p)
    (λ w. rw (add-one i, drop-cons ps i absent_parse h, ← e, t, w))
    (λ w. rw (add-one i, drop-cons ps i absent_parse h, ← e, t, w))

pub values_end : (text : List ℕ) (ps : List (Parse ℕ)) (i : ℕ) (values : Values) → length ps ≤ i →
    with_values values (whole_values text (drop i ps)) ≡ values
unfolding whole_values with_values
values_end text ps i values h = rw (drop_of_length-le ps h)

one_value : (v : ℕ) (vs : List ℕ) → with_values (Values.One v) vs ≡ cond (all_are v vs) (Values.One v) Values.Different
unfolding with_values with_value all_are
one_value v [] = refl
one_value v (w ∷ vs) = by_test (eqb v w) (λ t. rw t (one_value v vs)) (λ t. rw t (different vs))
  where
    different : (vs : List ℕ) → with_values Values.Different vs ≡ Values.Different
    different [] = refl
    different (v ∷ vs) = different vs

pub by_values_is : (cells parses values : List ℕ) (work : ℕ) (r : Parsed) →
    filled cells parses (end_answer (with_values Values.Nothing values) work (length r.set)) r
    ≡ by_values cells parses values work r
unfolding by_values with_values with_value
by_values_is cells parses [] work r = refl
by_values_is cells parses (v ∷ vs) work r = rw (one_value v vs) (by (all_are v vs))
  where
    by : (t : Bool) →
        filled cells parses (end_answer (cond t (Values.One v) Values.Different) work (length r.set)) r ≡
        when t (λ _. filled cells parses (answer 0 0 0 0 work (length r.set) v) r)
        (λ _. filled cells parses (answer 32 0 0 0 work (length r.set) 0) r)
    by true = refl
    by false = refl

-- ---- High bytes
from_place : (i : ℕ) (text : List ℕ) → first_high i text ≡ position_from (λ b. leb 128 b) i text
unfolding first_high
from_place i [] = refl
from_place i (b ∷ text) = by_test (leb 128 b) (λ t. rw t) (λ t. rw (t, add-one i) (from_place (suc i) text))

pub high_at : (text : List ℕ) → position (λ b. leb 128 b) text ≡ first_high 0 text
high_at text = position_from-zero (λ b. leb 128 b) text ∙ sym (from_place 0 text)
