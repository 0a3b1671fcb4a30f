-- Laws of bytes that are laid into a slice.
--
--   none_in, then_in, as_in          one part of the line after the other
--   lays_none, lays_then, lays_as    the same of a part of the code's
--   lays_full                        a full slice stays as it is
--   byte-                            one byte: skipped, stored, dropped
--   laid_short, laid_skip            a line that ends before the part that is asked for, and one that doesn't
--   laid_window                      what the slice then holds
--   window, window_at, whole_line    the part of the line that was asked for; a whole line
--   short-skip, short-size, ..       whether a line ends before a limit
--
-- Not here: what the bytes of the line are (CellLaws, NumberLaws, LineLaws).
use Rattle.std.specs.Prelude.{◌≡◌, true, not, ◌&&◌, List, [], ◌∷◌, ◌++◌, ℕ, zero, suc, ◌+◌, ◌-◌, ◌≤◌, ◌<◌, leb, ltb}
use Rattle.std.specs.Prelude.{length, set, take, drop}
use Rattle.std.proofs.Math.Path.{refl, sym}
use Rattle.std.proofs.Common.{ap, ◌∙◌, append-nil, append_assoc, arith, add-one, take-append-drop}
use Rattle.std.proofs.Common.{length-set, length-drop, drop_of_length-le, take-suc-set, drop-set-lt, take_all}
use Rattle.std.proofs.Common.{length-take-le, lt-ltb, le-ltb, leb-true, leb-false, ltb-true, ltb-false}
use Rattle.std.proofs.Math.Seq.{take-nil}
use Rattle.characters.specs.Cases.{by_test, clash}
use Rattle.characters.specs.Spelling.{part_of}
use Rattle.printing.specs.Laying.{Laid, Filling, lay, laid, full, LaysIn, Lays}
use Rattle.printing.specs.Lines.{Window}
use Rattle.printing.specs.declared.laying.Part.{Part}

-- ---- One byte
module _ (at : Laid) (out : List ℕ) (b : ℕ) where
  lay_skip : 0 < at.skip → lay (at, out) b ≡ (record { skip = at.skip - 1; size = at.size }, out)
  lay_skip h = rw (lt-ltb 0 at.skip h)

  lay_store : at.skip ≤ 0 → at.size < length out →
      lay (at, out) b ≡ (record { skip = 0; size = at.size + 1 }, set out at.size b)
  lay_store h l = rw (le-ltb 0 at.skip h, lt-ltb at.size (length out) l)

  lay_full : at.skip ≤ 0 → length out ≤ at.size → lay (at, out) b ≡ (at, out)
  lay_full h l = rw (le-ltb 0 at.skip h, le-ltb at.size (length out) l)

  pub byte_skipped : 0 < at.skip → LaysIn at out (b ∷ []) out (record { skip = at.skip - 1; size = at.size })
  unfolding laid
  byte_skipped h = record { is = sym (lay_skip h) }

  pub byte_stored : {out' : List ℕ} → at.skip ≤ 0 → at.size < length out → out' ≡ set out at.size b →
      LaysIn at out (b ∷ []) out' (record { skip = at.skip; size = at.size + 1 })
  unfolding laid
  byte_stored h l e =
      let none : 0 ≡ at.skip = omega (arith, h) in
      record {
        is = rw e (ap (λ (skip : ℕ). (record { skip = skip; size = at.size + 1 }, set out at.size b)) (sym none)
            ∙ sym (lay_store h l));
      }

  pub byte_dropped : at.skip ≤ 0 → length out ≤ at.size → LaysIn at out (b ∷ []) out at
  unfolding laid
  byte_dropped h l = record { is = sym (lay_full h l) }

-- ---- Parts of the line, one after the other
laid_append : (s : Filling) (v w : List ℕ) → laid s (v ++ w) ≡ laid (laid s v) w
unfolding laid
laid_append s [] w = refl
laid_append s (b ∷ v) w = laid_append (lay s b) v w

laid_full : (at : Laid) (out w : List ℕ) → at.skip ≤ 0 → length out ≤ at.size → laid (at, out) w ≡ (at, out)
unfolding laid
laid_full at out [] h l = refl
laid_full at out (b ∷ w) h l = rw (lay_full at out b h l) (laid_full at out w h l)

module _ {at : Laid} {out : List ℕ} where
  pub none_in : LaysIn at out [] out at
  unfolding laid
  none_in = record { is = refl }

  full_in : not (ltb 0 at.skip) && leb (length out) at.size ≡ true → (w : List ℕ) → LaysIn at out w out at
  full_in e w =
      by_test (ltb 0 at.skip)
      (λ t. clash e (rw t))
      (λ t. by_test (leb (length out) at.size)
      (λ u. record { is = sym (laid_full at out w (ltb-false 0 at.skip t) (leb-true (length out) at.size u)) })
      (λ u. clash e (rw (t, u))))

  pub then_in : {v w out' out'' : List ℕ} {at' at'' : Laid} →
      LaysIn at out v out' at' → LaysIn at' out' w out'' at'' → LaysIn at out (v ++ w) out'' at''
  then_in {v} {w} p q =
      record { is = q.is ∙ ap (λ (s : Filling). laid s w) p.is ∙ sym (laid_append (at, out) v w) }

  pub as_in : {v w out' : List ℕ} {at' : Laid} → LaysIn at out v out' at' → v ≡ w → LaysIn at out w out' at'
  as_in p e = rw e at p

module _ {part : Part} where
  pub lays_none : Lays part part []
  lays_none = record { same = refl; laid = none_in }

  pub lays_full : full part ≡ true → (w : List ℕ) → Lays part part w
  lays_full e w = record { same = refl; laid = full_in e w }

  pub lays_then : {v w : List ℕ} {part' part'' : Part} → Lays part part' v → Lays part' part'' w →
      Lays part part'' (v ++ w)
  lays_then p q = record { same = q.same ∙ p.same; laid = then_in p.laid q.laid }

  pub lays_as : {v w : List ℕ} {part' : Part} → Lays part part' v → v ≡ w → Lays part part' w
  lays_as p e = record { same = p.same; laid = as_in p.laid e }

-- ---- What the slice holds
abbrev before : ℕ → ℕ → Laid
before skip size = record { skip = skip; size = size }

-- a line that ends before the part that is asked for
laid_short : (j k : ℕ) (out w : List ℕ) → length w ≤ j → laid (before j k, out) w ≡ (before (j - length w) k, out)
unfolding laid
laid_short j k out [] h = let e : j - 0 ≡ j = omega arith in rw e
laid_short j k out (b ∷ w) h =
    let e : j - suc (length w) ≡ j - 1 - length w = omega arith in
    rw (lay_skip (before j k) out b (omega arith), e) (laid_short (j - 1) k out w (omega arith))

-- bytes in front of it leave no trace
laid_skip : (j k : ℕ) (out w : List ℕ) → j ≤ length w → laid (before j k, out) w ≡ laid (before 0 k, out) (drop j w)
unfolding laid
laid_skip zero k out w h = refl
laid_skip (suc j) k out [] h = absurd (omega arith)
laid_skip (suc j) k out (b ∷ w) h =
    let e : suc j - 1 ≡ j = omega arith in
    rw (lay_skip (before (suc j) k) out b (omega arith), e) (laid_skip j k out w (omega arith))

-- from byte k of the slice on
abbrev window_of : ℕ → List ℕ → List ℕ → Filling
window_of k out w = (
  before 0 (k + length (take (length out - k) w)),
  take k out ++ (take (length out - k) w ++ drop (k + length w) out),
)

laid_window : (k : ℕ) (out w : List ℕ) → k ≤ length out → laid (before 0 k, out) w ≡ window_of k out w
unfolding laid
laid_window k out [] h =
    let e : k + 0 ≡ k = omega arith in
    rw (take-nil (length out - k), e) (ap (λ (l : List ℕ). (before 0 k, l)) (sym (take-append-drop k out)))
laid_window k out (b ∷ w) h =
    by_test (ltb k (length out))
    (λ t.
    let inside = ltb-true k (length out) t in
    let size : length (set out k b) ≡ length out = length-set out k b in
    let one : length out - k ≡ suc (length out - (k + 1)) = omega arith in
    let sum : k + suc (length w) ≡ k + 1 + length w = omega arith in
    let more : k + suc (length (take (length out - (k + 1)) w)) ≡ k + 1 + length (take (length out - (k + 1)) w) =
    omega arith in
    let front : take (k + 1) (set out k b) ≡ take k out ++ (b ∷ []) = rw (add-one k) (take-suc-set out k b inside) in
    let back : drop (k + 1 + length w) (set out k b) ≡ drop (k + 1 + length w) out =
    drop-set-lt (k + 1 + length w) out k b (omega arith) in
    rw (lay_store (before 0 k) out b (omega arith) inside, one, sum)
    (laid_window (k + 1) (set out k b) w (omega arith)
    ∙ rw (size, front, back, more)
    (ap (λ (l : List ℕ). (before 0 (k + 1 + length (take (length out - (k + 1)) w)), l))
    (append_assoc (take k out) (b ∷ []) (take (length out - (k + 1)) w ++ drop (k + 1 + length w) out)))))
    (λ t.
    let past = ltb-false k (length out) t in
    let none : length out - k ≡ 0 = omega arith in
    let far : length out ≤ k + suc (length w) = omega arith in
    let same : k + 0 ≡ k = omega arith in
    laid_full (before 0 k) out (b ∷ w) (omega arith) past
    ∙ sym (rw (none, same, take_all k out past, drop_of_length-le out far)
    (ap (λ (l : List ℕ). (before 0 k, l)) (append-nil out))))

-- how long a part of the line is
part_short : (line : List ℕ) (from room : ℕ) → length line - from ≤ room →
    length (part_of line from room) ≡ length line - from
part_short line from room h =
    let l = length-drop from line in ap length (take_all room (drop from line) (omega arith)) ∙ l

part_long : (line : List ℕ) (from room : ℕ) → room ≤ length line - from → length (part_of line from room) ≡ room
part_long line from room h = let l = length-drop from line in length-take-le room (drop from line) (omega arith)

-- past a part the window holds what it held
after_part : (line out : List ℕ) (from : ℕ) →
    drop (length (drop from line)) out ≡ drop (length (part_of line from (length out))) out
after_part line out from =
    by_test (leb (length (drop from line)) (length out))
    (λ t. let h = leb-true (length (drop from line)) (length out) t in rw (take_all (length out) (drop from line) h))
    (λ t.
    let h = leb-false (length (drop from line)) (length out) t in
    let l = length-drop from line in
    let long : length (part_of line from (length out)) ≡ length out = part_long line from (length out) (omega arith) in
    let past : length out ≤ length (drop from line) = omega arith in
    let all : length out ≤ length (part_of line from (length out)) = omega arith in
    drop_of_length-le out past ∙ sym (drop_of_length-le out all))

module _ (from : ℕ) (line out : List ℕ) where
  abbrev part : List ℕ
  part = part_of line from (length out)

  holds : laid (before from 0, out) line ≡ (before (from - length line) (length part), part ++ drop (length part) out)
  holds =
      by_test (leb from (length line))
      (λ t.
      let inside = leb-true from (length line) t in
      let none : from - length line ≡ 0 = omega arith in
      let all : length out - 0 ≡ length out = omega arith in
      let start : 0 + length part ≡ length part = omega arith in
      let rest : 0 + length (drop from line) ≡ length (drop from line) = omega arith in
      laid_skip from 0 out line inside ∙ laid_window 0 out (drop from line) (omega arith)
      ∙ rw (all, none, start, rest, after_part line out from))
      (λ t.
      let past = leb-false from (length line) t in
      let behind : length line ≤ from = omega arith in
      laid_short from 0 out line behind ∙ rw (drop_of_length-le line behind, take-nil (length out)))

  module _ {out' : List ℕ} {end : Laid} (lays : LaysIn (before from 0) out line out' end) where
    told : ◌≡◌ {A = Filling} (end, out') (before (from - length line) (length part), part ++ drop (length part) out)
    told = lays.is ∙ holds

    size_is : end.size ≡ length part
    size_is = ap (λ (s : Filling). s.0.size) told

    pub skip_is : end.skip ≡ from - length line
    skip_is = ap (λ (s : Filling). s.0.skip) told

    pub window : Window from line out out' end.size
    window =
        record {
          size_is = size_is;
          out_is = ap (λ (s : Filling). s.1) told ∙ ap (λ (n : ℕ). part ++ drop n out) (sym size_is);
        }

    -- a slice of one byte behind the limit shows whether the line is within it
    pub within_limit : length out ≡ 1 → end.size ≡ 0 → length line ≤ from
    within_limit one none =
        by_test (leb (length line) from)
        (λ t. leb-true (length line) from t)
        (λ t.
        let past = leb-false (length line) from t in
        let long = part_long line from (length out) (omega arith) in
        absurd (omega (arith, size_is, long)))

    pub beyond_limit : (end.size ≡ 0 → ⊥) → from < length line
    beyond_limit some =
        by_test (leb (length line) from)
        (λ t.
        let within = leb-true (length line) from t in
        let short = part_short line from (length out) (omega arith) in
        absurd (some (omega (arith, size_is, short))))
        (λ t. leb-false (length line) from t)

-- the slice that is lent ends as what was laid into it
pub window_at : {from : ℕ} {line out out' end : List ℕ} {size : ℕ} → Window from line out out' size → end ≡ out' →
    Window from line out end size
window_at w e = rw e w

-- a line that fits, in front of what the slice held
pub whole_line : (line out out' : List ℕ) (size : ℕ) → Window 0 line out out' size → length line ≤ length out →
    out' ≡ line ++ drop (length line) out
whole_line line out out' size w h =
    let all : take (length out) line ≡ line = take_all (length out) line h in
    let size_is : size ≡ length line = w.size_is ∙ ap length all in
    w.out_is ∙ rw (all, size_is)
