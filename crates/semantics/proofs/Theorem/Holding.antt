-- What a run holds on its way, and that it stays so as cells come.
--
-- The plan. The cells so far are a table (`Tabled`); the values of every set of parses are cells that stand for trees
-- (`Held`); the items of the variant under way are a cell that stands for a chain, and so are the values of its lists
-- (`Left`). All of this stays when cells are added behind (`Grown`). A part of the run that has a result has only added
-- cells, and its set holds (`Gives`). The cells that a variant makes are in HoldingCells.
use Rattle.std.specs.Prelude.{◌≡◌, Bool, true, false, cond, List, [], ◌∷◌, ℕ, suc, ◌≤◌, length}
use Rattle.std.proofs.Common.{sym, subst, arith}
use mathlib.Core.List.Memᴰ
use Rattle.std.specs.Prelude.{Option}
use Rattle.book.specs.Book.{Entry, Book, nth_variant}
use Rattle.book.specs.declared.records.Step.{Step}
use Rattle.semantics.specs.Values.{Parse}
use Rattle.semantics.specs.Uses.{Use, keeps}
use Rattle.semantics.specs.Steps.{Todo, taking, elements, ending, naming, closing}
use Rattle.semantics.specs.Cells.{Cell}
use Rattle.semantics.specs.Errors.{Error}
use Rattle.semantics.specs.Run.{ok, State, Parsed, parsed, Call, kept, add, add_all}
use Rattle.semantics.proofs.Theorem.Lists.{◌∈◌, sift, sift_out, nth, either}
use Rattle.semantics.proofs.Theorem.Results.{ok_inj}
use Rattle.semantics.proofs.Theorem.Sets.{Distinct, distinct_nil, distinct_cons, kept_sift, add_joins}
use Rattle.semantics.proofs.Theorem.Sets.{add_distinct, add_size, add_all_joins, add_all_distinct, add_all_size}
use Rattle.semantics.proofs.Theorem.Table.{Table, Item, Chain, Prefix, prefix_refl, prefix_then, item_still}
use Rattle.semantics.proofs.Theorem.Table.{chain_still}

-- the cells so far, "a 4,097th" among them never
pub record Tabled (text : List ℕ) (C : List Cell) : Type 0 where
  pub table : Table text C
  pub cells : length C ≤ 4096

-- cells have come
pub record Grown (text : List ℕ) (C C' : List Cell) : Type 0 where
  pub tabled : Tabled text C'
  pub prefix : Prefix C C'

-- a set of parses
pub record Held (text : List ℕ) (C : List Cell) (set : List (Parse ℕ)) : Type 0 where
  pub values : (p : Parse ℕ) → p ∈ set → Item text C p.value
  pub distinct : Distinct set
  pub size : length set ≤ 64

-- a part of the run that began with cells C has a result
pub record Gives (text : List ℕ) (C : List Cell) (r : Parsed) : Type 0 where
  pub grown : Grown text C r.state.cells
  pub set : Held text r.state.cells r.set

-- an open call, with a set so far
pub record Ready (text : List ℕ) (C : List Cell) (c : Call) (U : List (Parse ℕ)) : Type 0 where
  pub tabled : Tabled text C
  pub stored : (i : ℕ) → Held text C (nth c.stored i)
  pub mine : Held text C c.mine
  pub set : Held text C U

-- ---- The variant under way
-- of what is left to do, the lists under way have values
unfoldable pub Values : List ℕ → List Cell → List (Todo ℕ) → Type 0
Values text C [] = Unit {0}
Values text C (taking step ∷ rest) = Values text C rest
Values text C (elements comma M values close ∷ rest) = Chain text C values × Values text C rest
Values text C (ending values close ∷ rest) = Chain text C values × Values text C rest
Values text C (naming names kinds close M ∷ rest) = Chain text C kinds × Values text C rest
Values text C (closing names kinds close M ∷ rest) = Chain text C kinds × Values text C rest

-- what is sure to add an item if it goes on: of the steps a child, the only one that a passing variant has, and every
-- list. A passing variant is no binder
abbrev pub Adds : Todo ℕ → Type 0
Adds (taking step) = (M : ℕ) × (step ≡ Step.Nonterminal M)
Adds (elements comma M values close) = Unit {0}
Adds (ending values close) = Unit {0}
Adds (naming names kinds close M) = ⊥
Adds (closing names kinds close M) = ⊥

-- a passing variant has its one item still before it, whatever its items are so far; or its items are the cell of that
-- item, which is its value
abbrev pub Passing : List ℕ → List Cell → List (Todo ℕ) → ℕ → Type 0
Passing text C [] items = Item text C items
Passing text C (todo ∷ rest) items = Adds todo × (rest ≡ [])

module _ (book : Book) (text : List ℕ) (C : List Cell) (j : ℕ) where
  -- what is left to do, and the items so far
  pub record Left (todo : List (Todo ℕ)) (items : ℕ) : Type 0 where
    pub values : Values text C todo
    pub plain : (nth_variant book j).passing ≡ false → Chain text C items
    pub passing : (nth_variant book j).passing ≡ true → Passing text C todo items

  -- the same where one item more comes before what is left
  pub record Wants (rest : List (Todo ℕ)) (items : ℕ) : Type 0 where
    pub values : Values text C rest
    pub plain : (nth_variant book j).passing ≡ false → Chain text C items
    pub passing : (nth_variant book j).passing ≡ true → rest ≡ []

-- ---- All of this stays as cells come
pub grown_refl : {text : List ℕ} {C : List Cell} → Tabled text C → Grown text C C
grown_refl {C = C} h = record { tabled = h; prefix = prefix_refl C }

pub grown_then : {text : List ℕ} {C C' C'' : List Cell} → Grown text C C' → Grown text C' C'' → Grown text C C''
grown_then g h = record { tabled = h.tabled; prefix = prefix_then g.prefix h.prefix }

pub gives_from : {text : List ℕ} {C C' : List Cell} {r : Parsed} → Grown text C C' → Gives text C' r → Gives text C r
gives_from g h = record { grown = grown_then g h.grown; set = h.set }

pub holds_still : {text : List ℕ} {C C' : List Cell} {set : List (Parse ℕ)} → Prefix C C' →
    Held text C set → Held text C' set
holds_still {text} p h =
    record { values = λ q m. item_still text p q.value (h.values q m); distinct = h.distinct; size = h.size }

pub ready_still : {text : List ℕ} {C C' : List Cell} {c : Call} {set : List (Parse ℕ)} → Grown text C C' →
    Ready text C c set → Ready text C' c set
ready_still g h = record {
  tabled = g.tabled;
  stored = λ i. holds_still g.prefix (h.stored i);
  mine = holds_still g.prefix h.mine;
  set = holds_still g.prefix h.set;
}

-- a part of the run has added to the set
pub ready_after : {text : List ℕ} {C : List Cell} {c : Call} {set : List (Parse ℕ)} {r : Parsed} → Ready text C c set →
    Gives text C r → Ready text r.state.cells c r.set
ready_after h g =
    let k = ready_still g.grown h in record { tabled = k.tabled; stored = k.stored; mine = k.mine; set = g.set }

pub gives_ok : {text : List ℕ} {C : List Cell} {a r : Parsed} → ok a ≡ ok r → Gives text C a → Gives text C r
gives_ok {text} {C} e g = subst (λ (z : Parsed). Gives text C z) (ok_inj e) g

-- the set so far is the result
pub gives_set : {text : List ℕ} {c : Call} {set : List (Parse ℕ)} {s : State} {d : Option Error} →
    Ready text s.cells c set → Gives text s.cells (parsed set d s)
gives_set h = record { grown = grown_refl h.tabled; set = h.set }

pub values_still : (text : List ℕ) {C C' : List Cell} (todo : List (Todo ℕ)) → Prefix C C' →
    Values text C todo → Values text C' todo
unfolding Values
values_still text [] p h = tt
values_still text (taking step ∷ rest) p h = values_still text rest p h
values_still text (elements comma M values close ∷ rest) p h =
    (chain_still text p values h.0, values_still text rest p h.1)
values_still text (ending values close ∷ rest) p h = (chain_still text p values h.0, values_still text rest p h.1)
values_still text (naming names kinds close M ∷ rest) p h =
    (chain_still text p kinds h.0, values_still text rest p h.1)
values_still text (closing names kinds close M ∷ rest) p h =
    (chain_still text p kinds h.0, values_still text rest p h.1)

passing_still : (text : List ℕ) {C C' : List Cell} (todo : List (Todo ℕ)) (items : ℕ) → Prefix C C' →
    Passing text C todo items → Passing text C' todo items
passing_still text [] items p h = item_still text p items h
passing_still text (todo ∷ rest) items p h = h

module _ {book : Book} {text : List ℕ} {C C' : List Cell} {j : ℕ} (todo : List (Todo ℕ))
    (items : ℕ) (p : Prefix C C') where
  pub left_still : Left book text C j todo items → Left book text C' j todo items
  left_still h = record {
    values = values_still text todo p h.values;
    plain = λ t. chain_still text p items (h.plain t);
    passing = λ t. passing_still text todo items p (h.passing t);
  }

  pub wants_still : Wants book text C j todo items → Wants book text C' j todo items
  wants_still h = record {
    values = values_still text todo p h.values;
    plain = λ t. chain_still text p items (h.plain t);
    passing = h.passing;
  }

pub wants_take :
    {book : Book} {text : List ℕ} {C : List Cell} {j : ℕ} {step : Step} {rest : List (Todo ℕ)} {items : ℕ} →
    Left book text C j (taking step ∷ rest) items → Wants book text C j rest items
unfolding Values
wants_take h = record { values = h.values; plain = h.plain; passing = λ t. (h.passing t).1 }

-- a list under way, and what is behind it
pub record ListLeft (book : Book) (text : List ℕ) (C : List Cell) (j values : ℕ) (rest : List (Todo ℕ))
    (items : ℕ) : Type 0 where
  pub chain : Chain text C values
  pub wants : Wants book text C j rest items

pub list_still : {book : Book} {text : List ℕ} {C C' : List Cell} {j values : ℕ} (rest : List (Todo ℕ)) (items : ℕ) →
    Prefix C C' → ListLeft book text C j values rest items → ListLeft book text C' j values rest items
list_still {text = text} {values = values} rest items p h =
    record { chain = chain_still text p values h.chain; wants = wants_still rest items p h.wants }

module _ {book : Book} {text : List ℕ} {C : List Cell} {j values : ℕ} {rest : List (Todo ℕ)} {items : ℕ} where
  pub elements_left : {comma : Bool} {M : ℕ} {close : Option ℕ} →
      Left book text C j (elements comma M values close ∷ rest) items → ListLeft book text C j values rest items
  unfolding Values
  elements_left h = record {
    chain = h.values.0;
    wants = record { values = h.values.1; plain = h.plain; passing = λ t. (h.passing t).1 };
  }

  pub ending_left : {close : Option ℕ} → Left book text C j (ending values close ∷ rest) items →
      ListLeft book text C j values rest items
  unfolding Values
  ending_left h = record {
    chain = h.values.0;
    wants = record { values = h.values.1; plain = h.plain; passing = λ t. (h.passing t).1 };
  }

  pub left_elements : {comma : Bool} {M : ℕ} {close : Option ℕ} → ListLeft book text C j values rest items →
      Left book text C j (elements comma M values close ∷ rest) items
  unfolding Values
  left_elements h = record {
    values = (h.chain, h.wants.values);
    plain = h.wants.plain;
    passing = λ t. (tt, h.wants.passing t);
  }

  pub left_ending : {close : Option ℕ} → ListLeft book text C j values rest items →
      Left book text C j (ending values close ∷ rest) items
  unfolding Values
  left_ending h = record {
    values = (h.chain, h.wants.values);
    plain = h.wants.plain;
    passing = λ t. (tt, h.wants.passing t);
  }

-- a binder's names under way, with the chain of their kinds, and what is behind its body: no passing variant has one
pub record BinderLeft (book : Book) (text : List ℕ) (C : List Cell) (j kinds : ℕ) (rest : List (Todo ℕ))
    (items : ℕ) : Type 0 where
  pub chain : Chain text C kinds
  pub wants : Wants book text C j rest items
  pub not_passing : (nth_variant book j).passing ≡ true → ⊥

pub binder_still : {book : Book} {text : List ℕ} {C C' : List Cell} {j kinds : ℕ} (rest : List (Todo ℕ)) (items : ℕ) →
    Prefix C C' → BinderLeft book text C j kinds rest items → BinderLeft book text C' j kinds rest items
binder_still {text = text} {kinds = kinds} rest items p h = record {
  chain = chain_still text p kinds h.chain;
  wants = wants_still rest items p h.wants;
  not_passing = h.not_passing;
}

module _ {book : Book} {text : List ℕ} {C : List Cell} {j kinds : ℕ} {rest : List (Todo ℕ)} {items : ℕ}
    {names : List Entry} {close M : ℕ} where
  pub naming_left : Left book text C j (naming names kinds close M ∷ rest) items →
      BinderLeft book text C j kinds rest items
  unfolding Values
  naming_left h = record {
    chain = h.values.0;
    wants = record { values = h.values.1; plain = h.plain; passing = λ t. (h.passing t).1 };
    not_passing = λ t. (h.passing t).0;
  }

  pub closing_left : Left book text C j (closing names kinds close M ∷ rest) items →
      BinderLeft book text C j kinds rest items
  unfolding Values
  closing_left h = record {
    chain = h.values.0;
    wants = record { values = h.values.1; plain = h.plain; passing = λ t. (h.passing t).1 };
    not_passing = λ t. (h.passing t).0;
  }

  pub left_naming : BinderLeft book text C j kinds rest items →
      Left book text C j (naming names kinds close M ∷ rest) items
  unfolding Values
  left_naming h = record {
    values = (h.chain, h.wants.values);
    plain = h.wants.plain;
    passing = λ t. absurd (h.not_passing t);
  }

  pub left_closing : BinderLeft book text C j kinds rest items →
      Left book text C j (closing names kinds close M ∷ rest) items
  unfolding Values
  left_closing h = record {
    values = (h.chain, h.wants.values);
    plain = h.wants.plain;
    passing = λ t. absurd (h.not_passing t);
  }

-- ---- Sets
pub holds_none : {text : List ℕ} {C : List Cell} → Held text C []
holds_none = record { values = λ p m. absurd (Memᴰ.not-nil m); distinct = distinct_nil; size = omega arith }

pub holds_one : {text : List ℕ} {C : List Cell} {p : Parse ℕ} → Item text C p.value → Held text C (p ∷ [])
holds_one {text} {C} h = record {
  values = λ q m. subst (λ (z : Parse ℕ). Item text C z.value) (sym (Memᴰ.eq_of_singleton m)) h;
  distinct = distinct_cons (λ m. Memᴰ.not-nil m) distinct_nil;
  size = omega arith;
}

sift_distinct : {A : Type 0} (k : A → Bool) {l : List A} → Distinct l → Distinct (sift k l)
unfolding sift
sift_distinct k distinct_nil = distinct_nil
sift_distinct k (distinct_cons {a} {l} once d) = of (k a) (sift_distinct k d)
  where
    of : (b : Bool) → Distinct (sift k l) → Distinct (cond b (a ∷ sift k l) (sift k l))
    of true h = distinct_cons (λ m. once (sift_out k l m).0) h
    of false h = h

sift_size : {A : Type 0} (k : A → Bool) (l : List A) → length (sift k l) ≤ length l
unfolding sift
sift_size k [] = omega arith
sift_size k (a ∷ l) = of (k a) (sift_size k l)
  where
    of : (b : Bool) → length (sift k l) ≤ length l → length (cond b (a ∷ sift k l) (sift k l)) ≤ suc (length l)
    of true h = omega arith
    of false h = omega arith

pub holds_kept : {text : List ℕ} {C : List Cell} (f : Use) (set : List (Parse ℕ)) →
    Held text C set → Held text C (kept f set)
holds_kept {text} {C} f set h =
    let few = sift_size (keeps f) set in
    let size = h.size in
    subst (λ (l : List (Parse ℕ)). Held text C l) (sym (kept_sift f set))
    (record {
      values = λ p m. h.values p (sift_out (keeps f) set m).0;
      distinct = sift_distinct (keeps f) h.distinct;
      size = omega arith;
    })

pub holds_add :
    {text : List ℕ} {C : List Cell} (s : State) (set : List (Parse ℕ)) (p : Parse ℕ) {more : List (Parse ℕ)} →
    add s set p ≡ ok more → Held text C set → Item text C p.value → Held text C more
holds_add s set p e h new = record {
  values = λ q m. either ((add_joins s set p e).out q m) (λ n. h.values q n) (λ n. (holds_one {p = p} new).values q n);
  distinct = add_distinct s set p e h.distinct;
  size = add_size s set p e h.size;
}

pub holds_all : {text : List ℕ} {C : List Cell} (s : State) (set ps : List (Parse ℕ)) {all : List (Parse ℕ)} →
    add_all s set ps ≡ ok all → Held text C set → Held text C ps → Held text C all
holds_all s set ps e h new = record {
  values = λ q m. either ((add_all_joins s set ps e).out q m) (λ n. h.values q n) (λ n. new.values q n);
  distinct = add_all_distinct s set ps e h.distinct;
  size = add_all_size s set ps e h.size;
}
