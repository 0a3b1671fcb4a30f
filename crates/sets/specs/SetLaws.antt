-- Sets in a list of numbers: what each function of the code has shown where it returns, and where a loop goes on.
--
-- Contents:
-- - clear: cleared
-- - has: q is the parse that the loop has read: has_hit, has_miss, has_none
-- - append: n parses were there: append_stored, append_as, append_full
-- - add: add_had, add_new
-- - all_in: q is the parse that the loop has read: all_on, all_not, all_end
-- - add_all: Joining, joining_start, joining_again, joining_full, joining_end
-- - copy: copied
-- - kept: keep_yes, keep_no, Keeping, keeping_start, keeping_again, keeping_end
use Rattle.std.specs.Prelude.{◌≡◌, refl, Bool, true, false, cond, List, [], ◌∷◌, ◌++◌, ltb, get_or, set, length}
use Rattle.std.proofs.Math.Path.{sym}
use Rattle.std.proofs.Common.{◌∙◌, append_assoc, append-nil, inl, inr, arith, sub-one, length-append, get_or-set_same}
use Prim.Native.Nat.{ℕ, zero, suc, ◌+◌, ◌-◌, ◌*◌, ◌<◌, ◌≤◌}
use borrow.Author.Tests.{lt-ltb, le-ltb}
use Rattle.book.specs.declared.records.Associativity.{Associativity}
use Rattle.semantics.specs.Values.{Parse}
use Rattle.semantics.specs.Tokens.{when}
use Rattle.semantics.specs.Uses.{Use, keeps_level}
use Rattle.semantics.specs.Run.{met, ok, ◌>>=◌, State, same_parse, has, all_in, kept, add, add_all}
use Rattle.sets.specs.Sets.{
  parse_at,
  list_at,
  set_at,
  put_parse,
  Only,
  Apart,
  Becomes,
  Appended,
  Added,
  AllAdded,
  Kept,
  appended,
  result,
  keep_end,
}
use Rattle.sets.specs.PlaceLaws.{
  only_refl,
  only_trans,
  only_wide,
  only_set,
  parse_apart,
  list_moved,
  list_apart,
  list_snoc,
  count_suc,
  set_length,
  set_list,
  set_le,
  set_apart,
  set_none,
  put_length,
  put_only,
  put_parse_at,
}

-- ---- clear
pub cleared : (f : List ℕ) (b : ℕ) → b + 257 ≤ length f → Becomes f (set f b 0) b []
cleared f b h = record { now = set_none f b (omega arith); only = only_set f b 0 b 257 (omega arith) (omega arith) }

-- ---- has: q is the parse that the loop has read
module _ (p q : Parse ℕ) (f : List ℕ) (b : ℕ) (t : Bool) (e : q ≡ parse_at f b) (m : t ≡ same_parse p q) where
  pub has_hit : (k : ℕ) → 0 < k → t ≡ true → has (list_at f b k) p ≡ true
  unfolding has list_at
  has_hit zero h y = absurd (omega arith)
  has_hit (suc k) h y = rw (← e, sym m ∙ y, has)

  pub has_miss : (k b' k' : ℕ) → b' ≡ b + 4 → k ≡ suc k' → t ≡ false → has (list_at f b k) p ≡ has (list_at f b' k') p
  unfolding has list_at
  has_miss k b' k' next less n = rw (less, next, ← e, sym m ∙ n, has)

pub has_none : (p : Parse ℕ) (f : List ℕ) (b k : ℕ) → k ≤ 0 → has (list_at f b k) p ≡ false
unfolding has list_at
has_none p f b k h = let e : k ≡ 0 = omega arith in rw e

-- ---- append: n parses were there
abbrev longer : List ℕ → ℕ → ℕ → Parse ℕ → List ℕ
longer f b n p = set (put_parse f (b + 1 + 4 * n) p) b (n + 1)

module _ (f : List ℕ) (b n : ℕ) (p : Parse ℕ) (len : b + 257 ≤ length f) (h : n < 64)
    (e : n ≡ length (set_at f b)) where
  count_stored : Only (put_parse f (b + 1 + 4 * n) p) (longer f b n p) b 1
  count_stored = only_set (put_parse f (b + 1 + 4 * n) p) b (n + 1) b 1 (omega arith) (omega arith)

  list_stored : list_at (longer f b n p) (b + 1) n ≡ set_at f b
  list_stored =
      list_apart (b + 1) n count_stored (inr (omega arith))
      ∙ list_apart (b + 1) n (put_only f (b + 1 + 4 * n) p) (inl (omega arith))
      ∙ sym (set_list f b n e)

  parse_stored : parse_at (longer f b n p) (b + 1 + 4 * n) ≡ p
  parse_stored =
      parse_apart (b + 1 + 4 * n) count_stored (inr (omega arith)) ∙ put_parse_at f (b + 1 + 4 * n) p (omega arith)

  count_is : get_or (longer f b n p) b 0 ≡ n + 1
  count_is =
      get_or-set_same (put_parse f (b + 1 + 4 * n) p) b (n + 1) 0 (rw (put_length f (b + 1 + 4 * n) p) (omega arith))

  set_stored : set_at (longer f b n p) b ≡ set_at f b ++ (p ∷ [])
  set_stored =
      set_list _ b (n + 1) (sym (set_length (longer f b n p) b ∙ rw (count_is, count_suc n h)))
      ∙ list_snoc (longer f b n p) (b + 1) n (b + 1 + 4 * n) refl
      ∙ rw (parse_stored, list_stored)

  pub append_stored : Appended true f (longer f b n p) b p
  unfolding appended
  append_stored =
      record {
        now = set_stored ∙ rw (← e, lt-ltb n 64 h);
        fits = rw (← e, lt-ltb n 64 h);
        only =
            only_trans
            (only_wide b 257 (omega arith) (omega arith) (put_only f (b + 1 + 4 * n) p))
            (only_wide b 257 (omega arith) (omega arith) count_stored);
      }

  pub append_as : (g k : List ℕ) → g ≡ put_parse f (b + 1 + 4 * n) p → k ≡ set g b (n + 1) → Appended true f k b p
  append_as g k u v = rw (v, u) append_stored

pub append_full : (f : List ℕ) (b n : ℕ) (p : Parse ℕ) → n ≡ length (set_at f b) → 64 ≤ n → Appended false f f b p
unfolding appended
append_full f b n p e h = record { now = rw (← e, le-ltb n 64 h); fits = rw (← e, le-ltb n 64 h); only = only_refl }

-- ---- add
pub add_had : (f : List ℕ) (b : ℕ) (p : Parse ℕ) (t : Bool) → t ≡ has (set_at f b) p → t ≡ true → Added true f f b p
unfolding add
add_had f b p t h k = record { now = λ s. rw (sym h ∙ k, add); only = only_refl }

by_fits : (s : State) (T U : List (Parse ℕ)) (p : Parse ℕ) (r : Bool) → U ≡ cond r (T ++ (p ∷ [])) T →
    when r (λ _. ok (T ++ (p ∷ []))) (λ _. met 22 s.units) ≡ result r U s
by_fits s T U p true e = rw e
by_fits s T U p false e = refl

pub add_new : (f g : List ℕ) (b : ℕ) (p : Parse ℕ) (t r : Bool) → t ≡ has (set_at f b) p → t ≡ false →
    Appended r f g b p → Added r f g b p
unfolding add appended
add_new f g b p t r h k a =
    record {
      now = λ s. rw (sym h ∙ k, ← a.fits, add) (by_fits s (set_at f b) (set_at g b) p r (rw (← a.fits) at a.now));
      only = a.only;
    }

-- ---- all_in: q is the parse that the loop has read
module _ (set : List (Parse ℕ)) (q : Parse ℕ) (f : List ℕ) (b : ℕ) (t : Bool) (e : q ≡ parse_at f b)
    (m : t ≡ has set q) where
  pub all_on : (k b' k' : ℕ) → b' ≡ b + 4 → k ≡ suc k' → t ≡ true →
      all_in set (list_at f b k) ≡ all_in set (list_at f b' k')
  unfolding all_in list_at
  all_on k b' k' next less y = rw (less, next, ← e, sym m ∙ y, all_in)

  pub all_not : (k : ℕ) → 0 < k → t ≡ false → all_in set (list_at f b k) ≡ false
  unfolding all_in list_at
  all_not zero h n = absurd (omega arith)
  all_not (suc k) h n = rw (← e, sym m ∙ n, all_in)

pub all_end : (set : List (Parse ℕ)) (f : List ℕ) (b k : ℕ) → k ≤ 0 → all_in set (list_at f b k) ≡ true
unfolding all_in list_at
all_end set f b k h = let e : k ≡ 0 = omega arith in rw e

-- ---- add_all
add_on : (s : State) (set more : List (Parse ℕ)) (f : List ℕ) (b k : ℕ) → 0 < k → add s set (parse_at f b) ≡ ok more →
    add_all s set (list_at f b k) ≡ add_all s more (list_at f (b + 4) (k - 1))
unfolding add_all list_at ◌>>=◌
add_on s set more f b zero h e = absurd (omega arith)
add_on s set more f b (suc k) h e = rw (sub-one, e, ◌>>=◌)

add_stop : (s : State) (set : List (Parse ℕ)) (f : List ℕ) (b k n u : ℕ) → 0 < k → add s set (parse_at f b) ≡ met n u →
    add_all s set (list_at f b k) ≡ met n u
unfolding add_all list_at ◌>>=◌
add_stop s set f b zero n u h e = absurd (omega arith)
add_stop s set f b (suc k) n u h e = rw (e, ◌>>=◌)

-- the loop stands at `at` in the set at `from`, with `left` parses to join
pub record Joining (f g : List ℕ) (into from at left : ℕ) : Type 0 where
  pub now : (s : State) → add_all s (set_at g into) (list_at f at left) ≡ add_all s (set_at f into) (set_at f from)
  pub only : Only f g into 257
  pub low : from + 1 ≤ at
  pub high : at + 4 * left ≤ from + 257

-- a parse of one set, while another is written
parse_of_lem : {f g : List ℕ} (into from at : ℕ) → Apart into from → Only f g into 257 → from ≤ at →
    at + 4 ≤ from + 257 →
    parse_at g at ≡ parse_at f at
parse_of_lem into from at (inl a) o l h = parse_apart at o (inr (omega arith))
parse_of_lem into from at (inr a) o l h = parse_apart at o (inl (omega arith))

pub joining_start : (f : List ℕ) (into from at n : ℕ) → n ≡ length (set_at f from) → at ≡ from + 1 →
    Joining f f into from at n
joining_start f into from at n e place =
    record {
      now = λ s. rw (set_list f from n e, place);
      only = only_refl;
      low = omega arith;
      high = omega (arith, set_le f from);
    }

module _ (f g g' : List ℕ) (into from at left : ℕ) (far : Apart into from) (J : Joining f g into from at left)
    (h : 0 < left) (q : Parse ℕ) (e : q ≡ parse_at g at) (r : Bool) (A : Added r g g' into q) where
  joined : (s : State) → add s (set_at g into) (parse_at f at) ≡ result r (set_at g' into) s
  joined s = rw (← parse_of_lem into from at far J.only (omega (arith, J.low)) (omega (arith, J.high)), ← e) (A.now s)

  pub joining_again : (at' left' : ℕ) → at' ≡ at + 4 → left' ≡ left - 1 → r ≡ true → Joining f g' into from at' left'
  joining_again at' left' next less y =
      record {
        now = λ s. rw (next, less)
            (sym (add_on s (set_at g into) (set_at g' into) f at left h (rw y at (joined s))) ∙ J.now s);
        only = only_trans J.only A.only;
        low = omega (arith, J.low);
        high = omega (arith, J.high);
      }

  pub joining_full : r ≡ false → AllAdded false f g' into from
  joining_full n =
      record {
        now = λ s. sym (J.now s) ∙ add_stop s (set_at g into) f at left 22 s.units h (rw n at (joined s));
        only = only_trans J.only A.only;
      }

pub joining_end : (f g : List ℕ) (into from at left : ℕ) → Joining f g into from at left → left ≤ 0 →
    AllAdded true f g into from
unfolding add_all list_at
joining_end f g into from at left J h =
    let z : left ≡ 0 = omega arith in
    record { now = λ s. sym (rw z at (J.now s)); only = J.only }

-- ---- copy
-- the numbers of the set at `from` were written over those of the set at `into`, k of them
pub copied : (f g : List ℕ) (into from k n : ℕ) → n ≡ length (set_at f from) → k ≡ 1 + 4 * n →
    ((i : ℕ) → i < k → get_or g (into + i) 0 ≡ get_or f (from + i) 0) →
    ((i : ℕ) → i < into → get_or g i 0 ≡ get_or f i 0) →
    ((i : ℕ) → into + k ≤ i → get_or g i 0 ≡ get_or f i 0) →
    Becomes f g into (set_at f from)
copied f g into from k n e size same low high =
    record {
      now =
          set_list g into n (e ∙ set_length f from
          ∙ rw (← at into from 0 (omega arith) (omega arith) (omega arith)) (sym (set_length g into)))
          ∙ list_moved f g (from + 1) (into + 1) n
          (λ i j l m q. at j i (i - from) (omega arith) (omega arith) (omega arith))
          ∙ sym (set_list f from n e);
      only = record { low = low; high = λ i l. high i (omega (arith, set_le f from)) };
    }
  where
    at : (j i x : ℕ) → j ≡ into + x → i ≡ from + x → x < k → get_or g j 0 ≡ get_or f i 0
    at j i x u v l = rw (u, v) (same x l)

-- ---- kept
pub keep_yes : (f g : List ℕ) (b : ℕ) (p : Parse ℕ) (t u r : Bool) → t ≡ u → t ≡ true → Appended r f g b p →
    Becomes f g b (keep_end u (set_at f b) p)
unfolding keep_end
keep_yes f g b p t u r e y a = record { now = a.now ∙ rw (sym e ∙ y); only = a.only }

pub keep_no : (f : List ℕ) (b : ℕ) (p : Parse ℕ) (t u : Bool) → t ≡ u → t ≡ false →
    Becomes f f b (keep_end u (set_at f b) p)
unfolding keep_end
keep_no f b p t u e n = record { now = rw (sym e ∙ n); only = only_refl }

keep_turn : (t : Bool) (T R : List (Parse ℕ)) (q : Parse ℕ) → length T < 64 →
    keep_end t T q ++ R ≡ T ++ cond t (q ∷ R) R
unfolding keep_end appended
keep_turn true T R q h = rw (lt-ltb (length T) 64 h) (append_assoc T (q ∷ []) R)
keep_turn false T R q h = refl

keep_length : (t : Bool) (T : List (Parse ℕ)) (q : Parse ℕ) → length (keep_end t T q) ≤ length T + 1
unfolding keep_end appended
keep_length true T q = by (ltb (length T) 64)
  where
    by : (u : Bool) → length (cond u (T ++ (q ∷ [])) T) ≤ length T + 1
    by true = simp length-append (omega arith)
    by false = omega arith
keep_length false T q = omega arith

kept_cons : (u : Use) (f : List ℕ) (b k : ℕ) → 0 < k →
    kept u (list_at f b k) ≡
    cond (keeps_level u.associativity u.level (parse_at f b).level)
    (parse_at f b ∷ kept u (list_at f (b + 4) (k - 1))) (kept u (list_at f (b + 4) (k - 1)))
unfolding kept list_at
kept_cons u f b zero h = absurd (omega arith)
kept_cons u f b (suc k) h = rw sub-one

-- the loop stands at `at` in the set at `from`, with `left` parses to look at; as many have room
pub record Keeping (f g : List ℕ) (into from : ℕ) (associativity : Associativity) (level at left : ℕ) : Type 0 where
  pub now : (u : Use) → u.associativity ≡ associativity → u.level ≡ level →
      set_at g into ++ kept u (list_at f at left) ≡ kept u (set_at f from)
  pub only : Only f g into 257
  pub room : length (set_at g into) + left ≤ 64
  pub low : from + 1 ≤ at
  pub high : at + 4 * left ≤ from + 257

pub keeping_start : (f : List ℕ) (into from : ℕ) (a : Associativity) (l at n : ℕ) → set_at f into ≡ [] →
    n ≡ length (set_at f from) → at ≡ from + 1 → Keeping f f into from a l at n
keeping_start f into from a l at n z e place =
    record {
      now = λ u v w. rw (z, set_list f from n e, place);
      only = only_refl;
      room = rw z (omega (arith, set_le f from));
      low = omega arith;
      high = omega (arith, set_le f from);
    }

pub keeping_again : (f g g' : List ℕ) (into from : ℕ) (a : Associativity) (l at left at' left' : ℕ) (q : Parse ℕ) →
    at' ≡ at + 4 → left' ≡ left - 1 → Apart into from → Keeping f g into from a l at left →
    0 < left → q ≡ parse_at g at → Becomes g g' into (keep_end (keeps_level a l q.level) (set_at g into) q) →
    Keeping f g' into from a l at' left'
keeping_again f g g' into from a l at left at' left' q next less far K h e B =
    let p : q ≡ parse_at f at =
    e ∙ parse_of_lem into from at far K.only (omega (arith, K.low)) (omega (arith, K.high)) in
    record {
      now = λ u v w.
          rw (
            next,
            less,
            B.now,
            keep_turn (keeps_level a l q.level) (set_at g into) (kept u (list_at f (at + 4) (left - 1))) q
                (omega (arith, K.room)),
            p,
            ← v,
            ← w,
            ← kept_cons u f at left h,
          ) (K.now u v w);
      only = only_trans K.only B.only;
      room = rw B.now (omega (arith, K.room, keep_length (keeps_level a l q.level) (set_at g into) q));
      low = omega (arith, K.low);
      high = omega (arith, K.high);
    }

set_far : {f g : List ℕ} (into from : ℕ) → Apart into from → Only f g into 257 → set_at g from ≡ set_at f from
set_far into from (inl a) o = set_apart from o (inr (omega arith))
set_far into from (inr a) o = set_apart from o (inl (omega arith))

-- f₀ as it was, f with the set at `into` cleared
pub keeping_end : (f₀ f g : List ℕ) (into from : ℕ) (a : Associativity) (l at left : ℕ) → Apart into from →
    Becomes f₀ f into [] → Keeping f g into from a l at left → left ≤ 0 → Kept f₀ g into from a l
unfolding kept list_at
keeping_end f₀ f g into from a l at left far B K h =
    let z : left ≡ 0 = omega arith in
    record {
      now = λ u v w. rw (z, append-nil, set_far into from far B.only) at (K.now u v w);
      only = only_trans B.only K.only;
    }
