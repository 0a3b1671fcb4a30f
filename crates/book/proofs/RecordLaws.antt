-- Laws of nonterminals, variants and steps, in the order in which the code reads their bytes.
--
--   one_refused, Byte                        a record that is refused; a byte that was read
--   nonterminal-, variant-, step-            where the reading of each stops, and what it reads
--   past, Known, allowed_known, -refused     what the dispatch over the kinds of steps tells
--
-- Not here: words and names (EntryLaws).
use Rattle.std.specs.Prelude.{◌≡◌, Some, None, Ok, Err, Bool, true, false, cond, List, ℕ, ◌+◌, ◌-◌, ◌≤◌, leb, ltb}
use Rattle.std.specs.Prelude.{eqb, length}
use Rattle.std.proofs.Math.Path.{refl}
use Rattle.std.proofs.Common.{sym, ap, ◌∙◌, arith, le-ltb, eqb-true, leb-true, leb-false, ltb-true, ltb-false}
use Rattle.std.proofs.Math.ListN.{get_or}
use Rattle.std.proofs.lemmas.Bool.{eqb-false}
use Rattle.characters.specs.Cases.{by_test, clash}
use Rattle.characters.specs.Classes.{between}
use Rattle.book.specs.Check.{Checked, refused, accepted, checked, fixed, nonterminal, variant, step, argument}
use Rattle.book.specs.Check.{delimiter}
use Rattle.book.specs.Index.{Part, refused_as, reading_of, One, one_of, record_from, below_range, argument_range}
use Rattle.book.specs.Index.{delimiter_range}
use Rattle.book.specs.Index.{allowed}
use Rattle.book.proofs.ReaderLaws.{between_inside, between_under, between_over, ByteRead}
use Rattle.book.proofs.ReaderLaws.{checked_short, checked_bad, checked_good, checked_told, same_test, fixed_most}
use Rattle.book.proofs.ReaderLaws.{no_value, no_size}
use Rattle.book.specs.Numbers.{last_mark}
use Rattle.book.specs.declared.refusals.Refusal.{Refusal}
use Rattle.book.specs.declared.sections.Sort.{Sort}
use Rattle.book.specs.declared.ranges.Range.{Range}
use Rattle.book.specs.declared.records.Step.{Step}

-- a record that is refused
pub one_refused : (sort : Sort) (binder : Bool) (book : List ℕ) (at : ℕ) (part : Part) {d : Refusal} →
    part ≡ Err d →
    ((first : ℕ) → one_of sort binder first book at ≡ refused_as d) → One sort binder book at part
one_refused sort binder book at part told h = record {
  reads = λ first. h first ∙ sym (ap (λ (x : Part). reading_of x (λ v. record_from sort book at first)) told);
  valued = λ first. no_value told _;
  small = no_size told;
}

-- a byte was read at a place: its value and the next place
abbrev pub Byte : (ℕ → Bool) → List ℕ → ℕ → Checked ℕ → Type 0
Byte fits book place c = checked fits 6 place book place ≡ c

-- ---- Nonterminals
module _ (book : List ℕ) (place : ℕ) where
  pub nonterminal_stop : {n p : ℕ} → Byte (between 0 last_mark) book place (refused n p) → (first : ℕ) →
      nonterminal first book place ≡ refused n p
  unfolding nonterminal
  nonterminal_stop e first = rw e

  pub nonterminal_read : (mark next most : ℕ) (part : Part) →
      Byte (between 0 last_mark) book place (accepted mark next) → most ≡ cond (eqb mark 2) 0 16 →
      Byte (fixed (eqb mark 3) 1 (between 0 most)) book next (reading_of part (λ v. v)) →
      (binder : Bool) → One Sort.Nonterminal binder book place part
  unfolding nonterminal
  nonterminal_read mark next most (Err d) m most_is e binder =
      one_refused Sort.Nonterminal binder book place (Err d) refl (λ first. rw m (rw (rw most_is at e)))
  nonterminal_read mark next most (Ok r) m most_is e binder =
      let few : most ≤ 16 =
      by_test (eqb mark 2) (λ t. rw (most_is, t) (omega arith)) (λ t. rw (most_is, t) (omega arith)) in
      let mark_told = checked_told (between 0 last_mark) 6 place book place mark next m in
      let told = checked_told (fixed (eqb mark 3) 1 (between 0 most)) 6 next book next r.value r.next e in
      let next_is = mark_told.next in
      let number_is : r.value ≡ get_or book (place + 1) 0 = rw next_is at told.value in
      record {
        reads = λ first. rw m (rw (rw most_is at e) (rw (mark_told.value, number_is)));
        valued = λ first. number_is;
        small = fixed_most (eqb mark 3) 1 most 255 r.value (omega arith) (omega arith) told.fitted;
      }

-- ---- Variants
module _ (binders binder : Bool) (book : List ℕ) (place : ℕ) where
  abbrev Level : Checked ℕ → Type 0
  Level c = Byte (fixed binder 255 (between 0 255)) book place c

  pub variant_stop_level : {n p : ℕ} → Level (refused n p) → (first : ℕ) →
      one_of (Sort.Variant binders) binder first book place ≡ refused n p
  unfolding variant
  variant_stop_level e first = rw e

  module _ (level next least : ℕ) (l : Level (accepted level next)) (least_is : least ≡ cond (eqb level 255) 3 0) where
    pub variant_stop_associativity : {n p : ℕ} → Byte (between least 3) book next (refused n p) → (first : ℕ) →
        one_of (Sort.Variant binders) binder first book place ≡ refused n p
    unfolding variant
    variant_stop_associativity e first = rw l (rw (rw least_is at e))

    module _ (associativity flags_at : ℕ) (a : Byte (between least 3) book next (accepted associativity flags_at)) where
      abbrev Flags : Checked ℕ → Type 0
      Flags c = Byte (fixed binder 1 (between 0 3)) book flags_at c

      pub variant_stop_flags : {n p : ℕ} → Flags (refused n p) → (first : ℕ) →
          one_of (Sort.Variant binders) binder first book place ≡ refused n p
      unfolding variant
      variant_stop_flags e first = rw l (rw (rw least_is at a) (rw e))

      pub variant_read : (flags number_at : ℕ) (part : Part) → Flags (accepted flags number_at) →
          Byte (fixed binder 1 (between 0 8)) book number_at (reading_of part (λ v. v)) →
          One (Sort.Variant binders) binder book place part
      unfolding variant
      variant_read flags number_at (Err d) f e =
          one_refused (Sort.Variant binders) binder book place (Err d) refl
          (λ first. rw l (rw (rw least_is at a) (rw f (rw e))))
      variant_read flags number_at (Ok r) f e =
          let lt = checked_told (fixed binder 255 (between 0 255)) 6 place book place level next l in
          let at = checked_told (between least 3) 6 next book next associativity flags_at a in
          let ft = checked_told (fixed binder 1 (between 0 3)) 6 flags_at book flags_at flags number_at f in
          let nt = checked_told (fixed binder 1 (between 0 8)) 6 number_at book number_at r.value r.next e in
          let second : next ≡ place + 1 = lt.next in
          let third : flags_at ≡ place + 2 = omega (arith, at.next) in
          let fourth : number_at ≡ place + 3 = omega (arith, ft.next) in
          let a_is : associativity ≡ get_or book (place + 1) 0 = rw second at at.value in
          let f_is : flags ≡ get_or book (place + 2) 0 = rw third at ft.value in
          let n_is : r.value ≡ get_or book (place + 3) 0 = rw fourth at nt.value in
          record {
            reads = λ first. rw l (rw (rw least_is at a) (rw f (rw e (rw (lt.value, a_is, f_is, n_is)))));
            valued = λ first. n_is;
            small = fixed_most binder 1 8 255 r.value (omega arith) (omega arith) nt.fitted;
          }

-- ---- Steps
empty_range : (b : ℕ) → between 1 0 b ≡ false
empty_range b =
    by_test (leb 1 b) (λ t. between_over 1 0 b (leb-true 1 b t)) (λ t. between_under 1 0 b (leb-false 1 b t))

zero_range : (b : ℕ) → between 0 0 b ≡ eqb b 0
zero_range b =
    by_test (eqb b 0)
    (λ t. between_inside 0 0 b (omega arith) (omega (arith, eqb-true b 0 t)) ∙ sym t)
    (λ t. between_over 0 0 b (omega (arith, eqb-false b 0 t)) ∙ sym t)

abbrev Within : Range → (ℕ → Bool) → Type 0
Within range fits = (b : ℕ) → between range.low range.high b ≡ fits b

below_fits : (n : ℕ) → Within (below_range n) (λ b. ltb b n)
below_fits n b =
    by_test (eqb n 0)
    (λ t. rw t (empty_range b ∙ sym (le-ltb b n (omega (arith, eqb-true n 0 t)))))
    (λ t. let some' = eqb-false n 0 t in
    rw t (by_test (ltb b n)
    (λ l. between_inside 0 (n - 1) b (omega arith) (omega (arith, ltb-true b n l, some')) ∙ sym l)
    (λ l. between_over 0 (n - 1) b (omega (arith, ltb-false b n l, some')) ∙ sym l)))

argument_fits : (words nonterminals kind : ℕ) →
    Within (argument_range words nonterminals kind) (argument words nonterminals kind)
argument_fits words nonterminals kind b =
    by_test (eqb kind 0) (λ t. rw t)
    (λ t. rw t (by_test (eqb kind 1) (λ u. rw u (below_fits words b))
    (λ u. rw u (by_test (eqb kind 5) (λ v. rw v)
    (λ v. rw v (by_test (leb 8 kind) (λ w. rw w (below_fits nonterminals b)) (λ w. rw w (zero_range b))))))))

delimiter_fits : (kind : ℕ) → Within (delimiter_range kind) (delimiter kind)
delimiter_fits kind b = by_test (leb 12 kind) (λ t. rw t) (λ t. rw t (zero_range b))

-- one number less that k may be
pub past : (n : ℕ) {k : ℕ} → n ≤ k → (k ≡ n → ⊥) → n + 1 ≤ k
past n h other = omega (arith, other)

-- which kinds a step may have
abbrev pub kind_fits : Bool → ℕ → Bool
kind_fits binder = fixed binder 14 (between 0 13)

-- what the dispatch over the kinds tells
pub record Known (words nonterminals : ℕ) (binder : Bool) (kind : ℕ) (a d : Range) : Type 0 where
  pub in_range : kind_fits binder kind ≡ true
  pub argument_is : Within a (argument words nonterminals kind)
  pub delimiter_is : Within d (delimiter kind)

module _ (words nonterminals : ℕ) (binder : Bool) (kind : ℕ) where
  allowed_in_range : kind_fits binder kind ≡ true → allowed words nonterminals binder kind
      ≡ Some (argument_range words nonterminals kind, delimiter_range kind)
  allowed_in_range t = rw t

  pub allowed_known : (a d : Range) → Some (a, d) ≡ allowed words nonterminals binder kind →
      Known words nonterminals binder kind a d
  allowed_known a d e =
      by_test (kind_fits binder kind)
      (λ t. let f = allowed_in_range t in
      let both : ◌≡◌ {A = Range × Range} (a, d) (argument_range words nonterminals kind, delimiter_range kind) = cc in
      let a_is : a ≡ argument_range words nonterminals kind = ap (λ (p : Range × Range). p.0) both in
      let d_is : d ≡ delimiter_range kind = ap (λ (p : Range × Range). p.1) both in
      record {
        in_range = t;
        argument_is =
            λ b. ap (λ (r : Range). between r.low r.high b) a_is ∙ argument_fits words nonterminals kind b;
        delimiter_is = λ b. ap (λ (r : Range). between r.low r.high b) d_is ∙ delimiter_fits kind b;
      })
      (λ t.
      let f : allowed words nonterminals binder kind ≡ None = rw t in
      let z : ◌≡◌ {A = ℕ} 0 1 = cc in absurd (omega arith))

  pub allowed_refused : None ≡ allowed words nonterminals binder kind → kind_fits binder kind ≡ false
  allowed_refused e =
      by_test (kind_fits binder kind)
      (λ t. let f = allowed_in_range t in let z : ◌≡◌ {A = ℕ} 0 1 = cc in absurd (omega arith))
      (λ t. t)

-- the kind, which the code reads whatever it is
module _ (binder : Bool) (book : List ℕ) (place : ℕ) where
  kind_stop : {n p : ℕ} → Byte (between 0 255) book place (refused n p) →
      Byte (kind_fits binder) book place (refused n p)
  kind_stop e =
      by_test (ltb place (length book))
      (λ t. let h = ltb-true place (length book) t in
      by_test (between 0 255 (get_or book place 0))
      (λ good.
      let g = checked_good (between 0 255) 6 place book place h good in
      let z : ◌≡◌ {A = ℕ} 0 1 = cc in absurd (omega arith))
      (λ bad. checked_bad (kind_fits binder) 6 place book place h
      (by_test (kind_fits binder (get_or book place 0))
      (λ u.
      clash (between_inside 0 255 (get_or book place 0) (omega arith)
      (fixed_most binder 14 13 255 (get_or book place 0) (omega arith) (omega arith) u)) bad)
      (λ u. u))
      ∙ sym (checked_bad (between 0 255) 6 place book place h bad) ∙ e))
      (λ t. let h = ltb-false place (length book) t in
      checked_short (kind_fits binder) 6 place book place h
      ∙ sym (checked_short (between 0 255) 6 place book place h) ∙ e)

  module _ (kind next : ℕ) (k : Byte (between 0 255) book place (accepted kind next)) where
    kind_told : ByteRead (between 0 255) 6 place book place kind next
    kind_told = checked_told (between 0 255) 6 place book place kind next k

    kind_unknown : kind_fits binder kind ≡ false → Byte (kind_fits binder) book place (refused 6 place)
    kind_unknown t =
        checked_bad (kind_fits binder) 6 place book place kind_told.inside (rw kind_told.value at t)

    kind_known : kind_fits binder kind ≡ true → Byte (kind_fits binder) book place (accepted kind next)
    kind_known t =
        checked_good (kind_fits binder) 6 place book place kind_told.inside (rw kind_told.value at t)
        ∙ rw (kind_told.value, kind_told.next)

module _ (words nonterminals : ℕ) (binders binder : Bool) (book : List ℕ) (place : ℕ) where
  abbrev Reads : Checked Step → Type 0
  Reads c = (first : ℕ) → one_of (Sort.Step words nonterminals binders) binder first book place ≡ c

  pub step_stop_kind : {n p : ℕ} → Byte (between 0 255) book place (refused n p) → Reads (refused n p)
  unfolding step
  step_stop_kind e first = rw (kind_stop binder book place e)

  module _ (kind next : ℕ) (k : Byte (between 0 255) book place (accepted kind next)) where
    pub step_unknown : kind_fits binder kind ≡ false → Reads (refused 6 place)
    unfolding step
    step_unknown t first = rw (kind_unknown binder book place kind next k t)

    module _ (a d : Range) (known : Known words nonterminals binder kind a d) where
      abbrev Argument : ℕ → Checked ℕ → Type 0
      Argument at c = Byte (between a.low a.high) book at c

      abbrev Delimiter : ℕ → Checked ℕ → Type 0
      Delimiter at c = Byte (between d.low d.high) book at c

      argument_byte : (at : ℕ) {c : Checked ℕ} → Argument at c → Byte (argument words nonterminals kind) book at c
      argument_byte at e =
          same_test (between a.low a.high) (argument words nonterminals kind) known.argument_is 6 at book at e

      delimiter_byte : (at : ℕ) {c : Checked ℕ} → Delimiter at c → Byte (delimiter kind) book at c
      delimiter_byte at e = same_test (between d.low d.high) (delimiter kind) known.delimiter_is 6 at book at e

      kind_read : Byte (kind_fits binder) book place (accepted kind next)
      kind_read = kind_known binder book place kind next k known.in_range

      pub step_stop_a : {n p : ℕ} → Argument next (refused n p) → Reads (refused n p)
      unfolding step
      step_stop_a e first = rw kind_read (rw (argument_byte next e))

      module _ (x second_at : ℕ) (ea : Argument next (accepted x second_at)) where
        pub step_stop_b : {n p : ℕ} → Delimiter second_at (refused n p) → Reads (refused n p)
        unfolding step
        step_stop_b e first = rw kind_read (rw (argument_byte next ea) (rw (delimiter_byte second_at e)))

        module _ (y third_at : ℕ) (eb : Delimiter second_at (accepted y third_at)) where
          pub step_stop_c : {n p : ℕ} → Delimiter third_at (refused n p) → Reads (refused n p)
          unfolding step
          step_stop_c e first =
              rw kind_read
              (rw (argument_byte next ea) (rw (delimiter_byte second_at eb) (rw (delimiter_byte third_at e))))

          pub step_read : (z last : ℕ) → Delimiter third_at (accepted z last) →
              One (Sort.Step words nonterminals binders) binder book place (Ok (record { value = 0; next = last }))
          unfolding step
          step_read z last e =
              let kt = kind_told binder book place kind next k in
              let at = checked_told (between a.low a.high) 6 next book next x second_at ea in
              let bt = checked_told (between d.low d.high) 6 second_at book second_at y third_at eb in
              let ct = checked_told (between d.low d.high) 6 third_at book third_at z last e in
              let second : next ≡ place + 1 = kt.next in
              let third : second_at ≡ place + 2 = omega (arith, at.next) in
              let fourth : third_at ≡ place + 3 = omega (arith, bt.next) in
              let x_is : x ≡ get_or book (place + 1) 0 = rw second at at.value in
              let y_is : y ≡ get_or book (place + 2) 0 = rw third at bt.value in
              let z_is : z ≡ get_or book (place + 3) 0 = rw fourth at ct.value in
              record {
                reads = λ first.
                    rw kind_read (rw (argument_byte next ea) (rw (delimiter_byte second_at eb)
                    (rw (delimiter_byte third_at e) (rw (kt.value, x_is, y_is, z_is)))));
                valued = λ first. refl;
                small = omega arith;
              }
