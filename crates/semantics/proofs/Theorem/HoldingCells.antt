-- The cells that a run makes, and that what is held (Holding) holds with them: each new cell stands for a tree or for a
-- chain, by the laws of the table. With this come the laws of the cells that a variant makes: as it begins, for each
-- item, and as it is complete.
use Rattle.std.specs.Prelude.{◌≡◌, true, ℕ, ◌+◌, ◌/◌, ◌%◌, ◌^◌, ◌≤◌, ◌<◌, length}
use Rattle.std.proofs.Math.Path.{refl, subst}
use Rattle.std.proofs.Common.{sym, ◌∙◌, pow_pos}
use mathlib.Core.List.{List, [], ◌∷◌, map}
use Rattle.std.specs.Prelude.{Option, None, Some}
use Rattle.std.proofs.Math.Nat.{mod-lt}
use native.Mathlib.Omega.{arith}
use Rattle.characters.specs.Cases.{by_test, clash}
use Rattle.book.specs.Numbers.{kinds}
use Rattle.book.specs.Book.{Book, nth_variant}
use Rattle.book.specs.declared.records.Step.{Step}
use Rattle.semantics.specs.Values.{Tree, Trees, Parse}
use Rattle.semantics.specs.Tokens.{Item as Read, when}
use Rattle.semantics.specs.Steps.{Todo, taking, steps_of, todo_of}
use Rattle.semantics.specs.Cells.{Cell, one, several, meaning_of, meanings}
use Rattle.semantics.specs.Run.{ok, State, Parsed, Made, made, Call, make, item_cell, begin, with_cell, with_token}
use Rattle.semantics.specs.Run.{complete}
use Rattle.semantics.proofs.Theorem.Results.{ok_inj, after}
use Rattle.semantics.proofs.Theorem.Tokens.{ReadFits, AddsFit}
use Rattle.semantics.proofs.Theorem.Table.{Item, Chain, Fits, make_grows, make_most, make_ok}
use Rattle.semantics.proofs.Theorem.Holding.{Tabled, Grown, Gives, Ready, Values, Passing, Left, Wants, grown_refl}
use Rattle.semantics.proofs.Theorem.Holding.{grown_then, holds_still, gives_ok, values_still, wants_still}
use Rattle.semantics.proofs.Theorem.Holding.{holds_add}

-- ---- Cells
-- a cell that stands for a tree, and one that stands for the trees of a chain, were made, or were there already
pub record NewItem (text : List ℕ) (C : List Cell) (m : Made) : Type 0 where
  pub grown : Grown text C m.state.cells
  pub item : Item text m.state.cells m.cell

pub record NewChain (text : List ℕ) (C : List Cell) (m : Made) : Type 0 where
  pub grown : Grown text C m.state.cells
  pub chain : Chain text m.state.cells m.cell

module _ {text : List ℕ} (s : State) (m : Made) (tabled : Tabled text s.cells) where
  make_grown : (c : Cell) → Fits text s.cells c → make text c s ≡ ok m → Grown text s.cells m.state.cells
  make_grown c f e = record {
    tabled = record {
      table = (make_ok text c s m tabled.table f e).table;
      cells = make_most text c s m e tabled.cells;
    };
    prefix = (make_grows text c s m e).prefix;
  }

  make_item : (c : Cell) (t : Tree) → meaning_of text (meanings text [] s.cells) c ≡ one t → Fits text s.cells c →
      make text c s ≡ ok m → NewItem text s.cells m
  make_item c t is f e =
      let h = make_ok text c s m tabled.table f e in
      record { grown = make_grown c f e; item = record { placed = h.placed; tree = t; is = h.means ∙ is } }

  make_chain : (c : Cell) (ts : Trees) → meaning_of text (meanings text [] s.cells) c ≡ several ts →
      Fits text s.cells c → make text c s ≡ ok m → NewChain text s.cells m
  make_chain c ts is f e =
      let h = make_ok text c s m tabled.table f e in
      record { grown = make_grown c f e; chain = record { placed = h.placed; trees = ts; is = h.means ∙ is } }

  pub new_empty : make text Cell.empty s ≡ ok m → NewChain text s.cells m
  unfolding meaning_of Fits
  new_empty e = make_chain Cell.empty _ refl tt e

  pub new_link : (c item : ℕ) → Chain text s.cells c → Item text s.cells item →
      make text (Cell.chain c item) s ≡ ok m → NewChain text s.cells m
  unfolding meaning_of Fits
  new_link c item h i e = make_chain (Cell.chain c item) _ refl (h, i) e

  pub new_variant : (j c : ℕ) → Chain text s.cells c → make text (Cell.variant j c) s ≡ ok m →
      NewItem text s.cells m
  unfolding meaning_of Fits
  new_variant j c h e = make_item (Cell.variant j c) _ refl h e

  pub new_list : (c : ℕ) → Chain text s.cells c → make text (Cell.list c) s ≡ ok m → NewItem text s.cells m
  unfolding meaning_of Fits
  new_list c h e = make_item (Cell.list c) _ refl h e

  pub new_absent : make text Cell.absent s ≡ ok m → NewItem text s.cells m
  unfolding meaning_of Fits
  new_absent e = make_item Cell.absent _ refl tt e

  pub new_name : (place size : ℕ) → place + size ≤ length text → make text (Cell.name place size) s ≡ ok m →
      NewItem text s.cells m
  unfolding meaning_of Fits
  new_name place size inside e = make_item (Cell.name place size) _ refl inside e

  pub new_read : (item : Read) → ReadFits text item → make text (item_cell item) s ≡ ok m → NewItem text s.cells m
  unfolding item_cell meaning_of Fits
  new_read (Read.name place size) fits e = new_name place size fits e
  new_read (Read.number n) fits e =
      make_item (Cell.number (n / 2 ^ 32) (n % 2 ^ 32)) _ refl (omega arith, mod-lt n (pow_pos 32)) e
  new_read (Read.variable i kind) fits e = make_item (Cell.variable i kind) _ refl tt e
  new_read (Read.declared depth index) fits e = make_item (Cell.declared depth index) _ refl tt e

  -- the kind of a declared name
  pub new_kind : (kind : ℕ) → kind < kinds → make text (Cell.number 0 kind) s ≡ ok m → NewItem text s.cells m
  unfolding meaning_of Fits
  new_kind kind below e = make_item (Cell.number 0 kind) _ refl (omega arith, omega arith) e

-- ---- The cells of a variant
steps_values : (text : List ℕ) (C : List Cell) (l : List Step) → Values text C (map taking l)
unfolding Values
steps_values text C [] = tt
steps_values text C (step ∷ l) = steps_values text C l

module _ (book : Book) (text : List ℕ) (j : ℕ) where
  -- what is left of the variant after a cell was made or found
  pub record Onward (todo : List (Todo ℕ)) (C : List Cell) (m : Made) : Type 0 where
    pub grown : Grown text C m.state.cells
    pub left : Left book text m.state.cells j todo m.cell

  -- the variant begins; a passing one has one step, which is a child
  pub begin_onward :
      ((nth_variant book j).passing ≡ true → (M : ℕ) × (steps_of book (nth_variant book j) ≡ Step.Nonterminal M ∷ [])) →
      (s : State) (m : Made) → Tabled text s.cells → begin book text j s ≡ ok m →
      Onward (todo_of book (nth_variant book j)) s.cells m
  unfolding begin
  begin_onward passing_ok s m tabled e =
      by_test (nth_variant book j).passing
      (λ t. subst (λ (z : Made). Onward (todo_of book (nth_variant book j)) s.cells z) (ok_inj (rw t at e))
      (record {
        grown = grown_refl tabled;
        left = record {
          values = steps_values text _ the_steps;
          plain = λ f. clash t f;
          passing = λ u. one_step _ (passing_ok u);
        };
      }))
      (λ t. let new = new_empty s m tabled (rw t at e) in
      record {
        grown = new.grown;
        left = record { values = steps_values text _ the_steps; plain = λ f. new.chain; passing = λ u. clash u t };
      })
    where
      the_steps : List Step
      the_steps = steps_of book (nth_variant book j)

      one_step : (C : List Cell) → (M : ℕ) × (the_steps ≡ Step.Nonterminal M ∷ []) →
          Passing text C (map taking the_steps) 0
      one_step C h = subst (λ (l : List Step). Passing text C (map taking l) 0) (sym h.1) ((h.0, refl), refl)

  -- an item is added
  pub with_cell_onward : (rest : List (Todo ℕ)) (items item : ℕ) (s : State) (m : Made) → Tabled text s.cells →
      Wants book text s.cells j rest items →
      Item text s.cells item → with_cell book text j items item s ≡ ok m → Onward rest s.cells m
  unfolding with_cell
  with_cell_onward rest items item s m tabled h i e =
      by_test (nth_variant book j).passing
      (λ t. subst (λ (z : Made). Onward rest s.cells z) (ok_inj (rw t at e))
      (record {
        grown = grown_refl tabled;
        left = record { values = h.values; plain = λ f. clash t f; passing = λ u. its_value (h.passing u) };
      }))
      (λ t. let new = new_link s m tabled items item (h.plain t) i (rw t at e) in
      record {
        grown = new.grown;
        left = record {
          values = values_still text rest new.grown.prefix h.values;
          plain = λ f. new.chain;
          passing = λ u. clash u t;
        };
      })
    where
      its_value : rest ≡ [] → Passing text s.cells rest item
      its_value none_left = subst (λ (l : List (Todo ℕ)). Passing text s.cells l item) (sym none_left) i

  -- a token adds an item or none. A passing variant has no tokens
  pub with_token_onward : (rest : List (Todo ℕ)) (items : ℕ) (item : Option Read) (s : State) (m : Made) →
      Tabled text s.cells → Wants book text s.cells j rest items → ((nth_variant book j).passing ≡ true → ⊥) →
      AddsFit text item → with_token book text j items item s ≡ ok m → Onward rest s.cells m
  unfolding with_token
  with_token_onward rest items None s m tabled h not_passing fits e =
      subst (λ (z : Made). Onward rest s.cells z) (ok_inj e)
      (record {
        grown = grown_refl tabled;
        left = record { values = h.values; plain = h.plain; passing = λ u. absurd (not_passing u) };
      })
  with_token_onward rest items (Some item) s m tabled h not_passing fits e =
      after _ _ e (λ a read next. both a (new_read s a tabled item fits read) next)
    where
      both : (a : Made) → NewItem text s.cells a →
          with_cell book text j items a.cell a.state ≡ ok m → Onward rest s.cells m
      both a new next =
          let o =
          with_cell_onward rest items a.cell a.state m new.grown.tabled
          (wants_still rest items new.grown.prefix h) new.item next in
          record { grown = grown_then new.grown o.grown; left = o.left }

  -- the variant's value
  new_value : (items : ℕ) (s : State) (m : Made) → Tabled text s.cells → Left book text s.cells j [] items →
      when (nth_variant book j).passing (λ _. ok (made items s)) (λ _. make text (Cell.variant j items) s) ≡ ok m →
      NewItem text s.cells m
  new_value items s m tabled h e =
      by_test (nth_variant book j).passing
      (λ t.
      subst (λ (z : Made). NewItem text s.cells z) (ok_inj (rw t at e))
      (record { grown = grown_refl tabled; item = h.passing t }))
      (λ t. new_variant s m tabled j items (h.plain t) (rw t at e))

  pub complete_gives : {c : Call} (x items : ℕ) (set : List (Parse ℕ)) (s : State) (r : Parsed) →
      Ready text s.cells c set →
      Left book text s.cells j [] items → complete book text j x items set s ≡ ok r → Gives text s.cells r
  unfolding complete
  complete_gives x items set s r h l e =
      after _ _ e (λ m valued next.
      after _ _ next (λ more joined is.
      let new = new_value items s m h.tabled l valued in
      gives_ok is
      (record {
        grown = new.grown;
        set = holds_add m.state set _ joined (holds_still new.grown.prefix h.set) new.item;
      })))
