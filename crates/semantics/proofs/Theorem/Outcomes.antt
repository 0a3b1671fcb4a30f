-- The four outcomes of a run without limits shut each other out, so each refusal number says exactly its own.
use Rattle.std.specs.Prelude.{◌≡◌, refl, List, ◌↔◌, ℕ}
use Rattle.std.proofs.Common.{arith}
use Rattle.characters.specs.Cases.{clash}
use Rattle.book.specs.Book.{Book}
use Rattle.semantics.specs.Exact.{Agree, NoneWhole, Differ, NoParse}

module _ (book : Book) (text : List ℕ) (start : ℕ) where
  -- what a refusal number says of the end
  pub record Says (refusal : ℕ) : Type 0 where
    pub value : refusal ≡ 0 ↔ Agree book text start
    pub has_no_parse : refusal ≡ 30 ↔ NoParse book text start
    pub has_none_whole : refusal ≡ 31 ↔ NoneWhole book text start
    pub differ : refusal ≡ 32 ↔ Differ book text start

  agree_none_whole : Agree book text start → NoneWhole book text start → ⊥
  agree_none_whole a n = let p = a.exists in clash p.1.ends (n.all p.0 p.1.derived)

  agree_differ : Agree book text start → Differ book text start → ⊥
  agree_differ a d = d.apart (a.all d.first d.second d.reaches.0 d.reaches.1)

  none_whole_differ : NoneWhole book text start → Differ book text start → ⊥
  none_whole_differ n d = let p = d.reaches.0 in clash p.ends (n.all d.first p.derived)

  pub says_value : Agree book text start → Says 0
  says_value a = record {
    value = (λ e. a, λ s. refl);
    has_no_parse = (λ e. absurd (omega arith), λ s. absurd (s a.exists.0 a.exists.1.derived));
    has_none_whole = (λ e. absurd (omega arith), λ s. absurd (agree_none_whole a s));
    differ = (λ e. absurd (omega arith), λ s. absurd (agree_differ a s));
  }

  pub says_no_parse : NoParse book text start → Says 30
  says_no_parse n = record {
    value = (λ e. absurd (omega arith), λ s. absurd (n s.exists.0 s.exists.1.derived));
    has_no_parse = (λ e. n, λ s. refl);
    has_none_whole = (λ e. absurd (omega arith), λ s. absurd (n s.exists.0 s.exists.1));
    differ = (λ e. absurd (omega arith), λ s. absurd (n s.first s.reaches.0.derived));
  }

  pub says_none_whole : NoneWhole book text start → Says 31
  says_none_whole n = record {
    value = (λ e. absurd (omega arith), λ s. absurd (agree_none_whole s n));
    has_no_parse = (λ e. absurd (omega arith), λ s. absurd (s n.exists.0 n.exists.1));
    has_none_whole = (λ e. n, λ s. refl);
    differ = (λ e. absurd (omega arith), λ s. absurd (none_whole_differ n s));
  }

  pub says_differ : Differ book text start → Says 32
  says_differ d = record {
    value = (λ e. absurd (omega arith), λ s. absurd (agree_differ s d));
    has_no_parse = (λ e. absurd (omega arith), λ s. absurd (s d.first d.reaches.0.derived));
    has_none_whole = (λ e. absurd (omega arith), λ s. absurd (none_whole_differ s d));
    differ = (λ e. d, λ s. refl);
  }
