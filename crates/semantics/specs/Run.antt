-- Document 01, "The run", with what document 02 d says of binders.
--
-- Letters: c is a call (in `make` a cell), s and t are states, j a variant's number, N a use's nonterminal and u the
-- skipped place where it begins, M a child's nonterminal, m the minimum of a level, x a place that a path has reached,
-- e an error, p and q parses. What was made is m too, of an empty chain e, of a list l.
use Rattle.std.specs.Prelude.{Bool, true, false, cond, ◌&&◌, List, [], ◌∷◌, ◌++◌, ℕ, zero, suc, ◌+◌, ◌-◌, ◌/◌, ◌%◌, leb}
use Rattle.std.specs.Prelude.{ltb, eqb, length, get_or}
use Rattle.std.specs.Prelude.{Option, None, Some}
use Rattle.characters.specs.Classes.{between}
use Rattle.characters.specs.Skipping.{skip_from}
use Rattle.book.specs.Book.{Entry, Book, nth_nonterminal, nth_variant, associativity_number, step_number}
use Rattle.book.specs.declared.records.Associativity.{Associativity}
use Rattle.book.specs.declared.records.Step.{Step}
use Rattle.book.specs.Numbers.{default_level}
use Rattle.semantics.specs.Numbers.{most_nesting, most_parses, most_rounds, most_cells, most_declared, half}
use Rattle.semantics.specs.Numbers.{no_unit, too_deep, too_many_parses, too_many_cells, too_many_names}
use Rattle.semantics.specs.Numbers.{character_wanted, nonterminal_wanted}
use Rattle.semantics.specs.Values.{Parse}
use Rattle.semantics.specs.Uses.{Use, use_of, has_mark, within, Path, behind_any, Scope, scope_of, minimum}
use Rattle.semantics.specs.Uses.{same_start, governor, keeps}
use Rattle.semantics.specs.Tokens.{Item, when, character_end, free_end, claimed, declaration_at}
use Rattle.semantics.specs.Steps.{Taken, step_at, goes, halts, after_element, closed, Todo, taking, elements}
use Rattle.semantics.specs.Steps.{ending, naming, closing, todo_of}
use Rattle.semantics.specs.Cells.{Cell, find_cell}
use Rattle.semantics.specs.Errors.{Error, error, join, join_with, beyond, choice_error, step_error}
use Rattle.semantics.specs.Errors.{declaration_error}

-- a limit met, with its number and the units left; or a result
pub data Result (A : Type 0) : Type 0 where
  met : ℕ → ℕ → Result A
  ok : A → Result A

infixl 20 ◌>>=◌
unfoldable pub ◌>>=◌ : {A B : Type 0} → Result A → (A → Result B) → Result B
◌>>=◌ (met number units) f = met number units
◌>>=◌ (ok x) f = f x

-- units left, cells so far, and for each open call, the newest first, whether its stored parses were asked for
pub record State : Type 0 where
  pub units : ℕ
  pub cells : List Cell
  pub asked : List Bool

-- what a run gives: a set of parses; an error that is handed on, if any; and the state after it. A call, choice or
-- step that yields a parse hands on no error, and one that fails always has one; the variants of a call together may
-- fail with none, and the call then has its own
pub record Parsed : Type 0 where
  pub set : List (Parse ℕ)
  pub failure : Option Error
  pub state : State

abbrev pub parsed : List (Parse ℕ) → Option Error → State → Parsed
parsed set failure state = record { set = set; failure = failure; state = state }

-- a cell's number, and the state after it
pub record Made : Type 0 where
  pub cell : ℕ
  pub state : State

abbrev pub made : ℕ → State → Made
made cell state = record { cell = cell; state = state }

-- an open call: its path, the stored sets of the calls around it, its nonterminal and start, and its own stored set
pub record Call : Type 0 where
  pub path : Path
  pub stored : List (List (Parse ℕ))
  pub nonterminal : ℕ
  pub start : ℕ
  pub mine : List (Parse ℕ)

abbrev pub call : Path → List (List (Parse ℕ)) → ℕ → ℕ → List (Parse ℕ) → Call
call path stored nonterminal start mine =
    record { path = path; stored = stored; nonterminal = nonterminal; start = start; mine = mine }

-- its stored parses are set to all found
abbrev pub with_mine : Call → List (Parse ℕ) → Call
with_mine c all = call c.path c.stored c.nonterminal c.start all

-- runs what is left of a variant: of a call, a variant's number, what is left to do, a place, the items so far and
-- the set so far
abbrev pub Runner : Type 0
Runner = Call → ℕ → List (Todo ℕ) → ℕ → ℕ → List (Parse ℕ) → State → Result Parsed

-- runs what is left behind a list or a step, on the same level: from a place, after these items
abbrev pub Go : Type 0
Go = ℕ → ℕ → List (Parse ℕ) → State → Result Parsed

-- runs what follows a parse of a child, one level further in
abbrev pub Next : Type 0
Next = Parse ℕ → State → Runner → List (Parse ℕ) → Result Parsed

-- ---- Sets: "in first-found order"
unfoldable pub same_parse : Parse ℕ → Parse ℕ → Bool
same_parse p q =
    eqb p.rest q.rest
    && (eqb p.level q.level
    && (eqb (associativity_number p.associativity) (associativity_number q.associativity)
    && eqb p.value q.value))

unfoldable pub has : List (Parse ℕ) → Parse ℕ → Bool
has [] p = false
has (q ∷ set) p = when (same_parse p q) (λ _. true) (λ _. has set p)

unfoldable pub all_in : List (Parse ℕ) → List (Parse ℕ) → Bool
all_in set [] = true
all_in set (p ∷ ps) = when (has set p) (λ _. all_in set ps) (λ _. false)

unfoldable pub kept : Use → List (Parse ℕ) → List (Parse ℕ)
kept f [] = []
kept f (p ∷ ps) = cond (keeps f p) (p ∷ kept f ps) (kept f ps)

-- "a 65th different parse in any set" is a limit
unfoldable pub add : State → List (Parse ℕ) → Parse ℕ → Result (List (Parse ℕ))
add s set p =
    when (has set p) (λ _. ok set)
    (λ _. when (ltb (length set) most_parses) (λ _. ok (set ++ (p ∷ []))) (λ _. met too_many_parses s.units))

unfoldable pub add_all : State → List (Parse ℕ) → List (Parse ℕ) → Result (List (Parse ℕ))
add_all s set [] = ok set
add_all s set (p ∷ ps) = add s set p >>= (λ more. add_all s more ps)

-- ---- The marks of the open calls; one that is not listed is false
unfoldable pub ask : ℕ → List Bool → List Bool
ask zero [] = true ∷ []
ask (suc i) [] = false ∷ ask i []
ask zero (b ∷ bs) = true ∷ bs
ask (suc i) (b ∷ bs) = b ∷ ask i bs

unfoldable pub newest : List Bool → Bool
newest [] = false
newest (b ∷ bs) = b

unfoldable pub others : List Bool → List Bool
others [] = []
others (b ∷ bs) = bs

abbrev pub with_asked : State → List Bool → State
with_asked s asked = record { units = s.units; cells = s.cells; asked = asked }

-- ---- Work and cells
abbrev pub with_cells : State → List Cell → State
with_cells s cells = record { units = s.units; cells = cells; asked = s.asked }

-- "a unit beyond the allowance": none is left
unfoldable pub spend : State → Result State
spend s =
    when (ltb 0 s.units)
    (λ _. ok (record { units = s.units - 1; cells = s.cells; asked = s.asked }))
    (λ _. met no_unit 0)

-- "a 4,097th cell" is a limit
unfoldable pub make : List ℕ → Cell → State → Result Made
make text c s =
    let i = find_cell text c 1 s.cells in
    when (eqb i 0)
    (λ _.
    when (ltb (length s.cells) most_cells)
    (λ _. ok (made (suc (length s.cells)) (with_cells s (s.cells ++ (c ∷ [])))))
    (λ _. met too_many_cells s.units))
    (λ _. ok (made i s))

unfoldable pub item_cell : Item → Cell
item_cell (Item.name place size) = Cell.name place size
item_cell (Item.number n) = Cell.number (n / half) (n % half)
item_cell (Item.variable i kind) = Cell.variable i kind
item_cell (Item.declared depth index) = Cell.declared depth index

-- ---- Scopes
-- how many names are declared in a scope
unfoldable pub declared_names : Scope → ℕ
declared_names [] = 0
declared_names (binder ∷ scope) = length binder + declared_names scope

-- "when a body's scope opens, .. and a 65th declared name would be open"; without an opening no scope opens
unfoldable pub open_scope : Option (List Entry) → Scope → State → Result State
open_scope None scope s = ok s
open_scope (Some names) scope s =
    when (leb (declared_names (names ∷ scope)) most_declared) (λ _. ok s) (λ _. met too_many_names s.units)

-- ---- Errors
-- "With none, a call gives 11 at its start"
unfoldable pub failed_call : Call → Option Error → Error
failed_call c None = error c.start nonterminal_wanted c.nonterminal
failed_call c (Some e) = e

-- "A call, choice or step that yields a parse hands on no error"
unfoldable pub either : Option Error → Option Error → Option Error
either None b = None
either (Some a) None = None
either (Some a) (Some b) = Some (join a b)

-- both sides of a choice at a place
unfoldable pub chosen : Call → ℕ → Option Error → Parsed → Parsed
chosen c at None b = parsed b.set None b.state
chosen c at (Some a) b =
    elim b.failure [
      | None ↦ b
      | Some e ↦ parsed b.set (Some (choice_error at c.nonterminal a e)) b.state
    ]

-- the closing that is missing; a list without one is never asked for it
unfoldable pub closing_code : Option ℕ → ℕ
closing_code None = 0
closing_code (Some c) = c

module _ (book : Book) (text : List ℕ) where
  -- ---- A variant's cells
  -- "1 empty chain (made as a variant begins)"; "Passing variants make no cell and keep the child's value": the items
  -- of a passing variant are its value itself
  unfoldable pub begin : ℕ → State → Result Made
  begin j s = when (nth_variant book j).passing (λ _. ok (made 0 s)) (λ _. make text Cell.empty s)

  unfoldable pub with_cell : ℕ → ℕ → ℕ → State → Result Made
  with_cell j items item s =
      when (nth_variant book j).passing (λ _. ok (made item s)) (λ _. make text (Cell.chain items item) s)

  unfoldable pub with_token : ℕ → ℕ → Option Item → State → Result Made
  with_token j items None s = ok (made items s)
  with_token j items (Some item) s = make text (item_cell item) s >>= (λ m. with_cell j items m.cell m.state)

  -- "the parse is (rest, level, associativity, value)"
  abbrev pub parse_by : ℕ → ℕ → ℕ → Parse ℕ
  parse_by j rest cell =
      let v = nth_variant book j in
      record { rest = rest; level = v.level; associativity = v.associativity; value = cell }

  -- the variant's own; its parse joins the set
  unfoldable pub complete : ℕ → ℕ → ℕ → List (Parse ℕ) → State → Result Parsed
  complete j x items set s = do
    m ← when (nth_variant book j).passing (λ _. ok (made items s)) (λ _. make text (Cell.variant j items) s)
    more ← add m.state set (parse_by j x m.cell)
    ok (parsed more None m.state)

  -- ---- "A call runs its variants"
  -- "A variant's errors count only if it is committed and more than skipped text lies between"
  unfoldable pub counted : Call → ℕ → Option Error → Option Error
  counted c j None = None
  counted c j (Some e) = cond (nth_variant book j).committed (beyond c.start e) None

  -- n variants from j on, whose level reaches the minimum
  unfoldable pub variants : Runner → Call → ℕ → ℕ → ℕ → List (Parse ℕ) → Option Error → State → Result Parsed
  variants run c m zero j set e s = ok (parsed set e s)
  variants run c m (suc n) j set e s =
      when (leb m (nth_variant book j).level)
      (λ _. do
        b ← begin j s
        r ← run c j (todo_of book (nth_variant book j)) c.start b.cell set b.state
        variants run c m n (suc j) r.set (join_with e (counted c j r.failure)) r.state)
      (λ _. variants run c m n (suc j) set e s)

  -- one run of a call: its own set is empty at first
  unfoldable pub one_run : Runner → Call → ℕ → State → Result Parsed
  one_run run c m s = let nt = nth_nonterminal book c.nonterminal in variants run c m nt.count nt.first [] None s

  -- "they are set to all found, and it is run again until a run fails or adds nothing"; a run that fails has no parse
  -- to add. Each run but the last adds one, and a 65th is a limit, so that 65 runs are always enough (RoundLaws);
  -- what stands for "no run left" is never asked for
  unfoldable pub rounds : ℕ → Runner → Call → ℕ → State → Result Parsed
  rounds zero run c m s = met too_many_parses s.units
  rounds (suc n) run c m s = do
    r ← one_run run c m s
    when (all_in c.mine r.set) (λ _. ok (parsed c.mine None r.state))
        (λ _. do
          all ← add_all r.state c.mine r.set
          rounds n run (with_mine c all) m r.state)

  unfoldable pub run_call : Runner → Call → ℕ → State → Result Parsed
  run_call run c m s = do
    r ← one_run run c m s
    elim r.set [
      | [] ↦ ok (parsed [] (Some (failed_call c r.failure)) r.state)
      | p ∷ ps ↦ when (newest r.state.asked)
          (λ _. rounds most_rounds run (with_mine c r.set) m r.state)
          (λ _. ok (parsed r.set None r.state))
    ]

  -- "`identifier_nonterminal`", of "level 255 Both"
  abbrev pub identifier_parse : ℕ → ℕ → Parse ℕ
  identifier_parse end cell =
      record { rest = end; level = default_level; associativity = Associativity.Both; value = cell }

  unfoldable pub named : Call → State → Option ℕ → Result Parsed
  named c s None = ok (parsed [] (Some (failed_call c None)) s)
  named c s (Some end) = do
    m ← make text (Cell.name c.start (end - c.start)) s
    ok (parsed (identifier_parse end m.cell ∷ []) None m.state)

  unfoldable pub run_identifier : Call → State → Result Parsed
  run_identifier c s =
      named c s (when (claimed book text c.path c.start) (λ _. None) (λ _. free_end book text c.start))

  -- ---- What follows a parse
  -- the item is added, and the steps go on
  unfoldable pub plain_next : Call → ℕ → List (Todo ℕ) → ℕ → Next
  plain_next c j rest items q s run set =
      with_cell j items q.value s >>= (λ m. run c j rest q.rest m.cell set m.state)

  -- the element is added, and the list goes on or ends
  unfoldable pub list_next : Call → ℕ → Bool → ℕ → ℕ → Option ℕ → List (Todo ℕ) → ℕ → Next
  list_next c j comma M values close rest items q s run set = do
    m ← make text (Cell.chain values q.value) s
    elim (after_element text comma q.rest) [
      | goes y ↦ run c j (elements comma M m.cell close ∷ rest) y items set m.state
      | halts y ↦ run c j (ending m.cell close ∷ rest) y items set m.state
    ]

  -- a list stops: its cell, then its closing, then its chain cell
  unfoldable pub stops : ℕ → ℕ → Option ℕ → Go → Go
  stops j values close go x items set s = do
    l ← make text (Cell.list values) s
    elim (closed text close x) [
      | None ↦ ok (parsed set (Some (error (skip_from text x) character_wanted (closing_code close))) l.state)
      | Some y ↦ with_cell j items l.cell l.state >>= (λ m. go y m.cell set m.state)
    ]

-- ---- One level of nesting. `inner` runs a variant one level further in; none is a limit, "nesting beyond 200"
module _ (book : Book) (text : List ℕ) (inner : Option Runner) where
  unfoldable pub nested : State → (Runner → Result Parsed) → Result Parsed
  nested s f = elim inner [ Some run ↦ f run | None ↦ met too_deep s.units ]

  -- "Re-entry at its start gives its stored parses, filtered; none is a failure"
  unfoldable pub reentry : List (Parse ℕ) → Error → State → Parsed
  reentry [] e s = parsed [] (Some e) s
  reentry (p ∷ ps) e s = parsed (p ∷ ps) None s

  -- "`enter`": one unit; the governor; then one level of nesting
  unfoldable pub enter : Path → List (List (Parse ℕ)) → ℕ → ℕ → State → Result Parsed
  enter path sets N u s₀ = do
    s ← spend s₀
    elim (governor path N u) [
      | same_start i f around ↦
          ok (reentry (kept f (get_or sets i [])) (error u nonterminal_wanted N) (with_asked s (ask i s.asked)))
      | minimum m ↦ nested s (λ run.
          let c = call path sets N u [] in
          when (has_mark book 2 N) (λ _. run_identifier book text c s)
          (λ _. do
            r ← run_call book text run c m (with_asked s (false ∷ s.asked))
            ok (parsed r.set r.failure (with_asked r.state (others r.state.asked)))))
    ]

  -- ---- "a variant runs its steps; a step calls a nonterminal again"
  -- the call of a child at a place, behind an opening that was read or behind none
  unfoldable pub enter_child : Option (List Entry) → Call → ℕ → ℕ → ℕ → State → Result Parsed
  enter_child opening c j M x s =
      let at = skip_from text x in
      enter (behind_any opening (within (use_of book c.nonterminal c.start j at) ∷ c.path)) (c.mine ∷ c.stored)
      M at s

  -- what follows each parse of a child, one level further in; of the errors so far, if all failed, one is handed on
  unfoldable pub follow_more : Next → List (Parse ℕ) → List (Parse ℕ) → Option Error → State → Result Parsed
  follow_more next [] set failure s = ok (parsed set failure s)
  follow_more next (q ∷ qs) set failure s =
      nested s (λ run. next q s run set)
      >>= (λ a. follow_more next qs a.set (either failure a.failure) a.state)

  -- a call without a parse fails, so that the list is never empty here
  unfoldable pub follow : Next → List (Parse ℕ) → List (Parse ℕ) → State → Result Parsed
  follow next [] set s = ok (parsed set None s)
  follow next (q ∷ qs) set s =
      nested s (λ run. next q s run set) >>= (λ a. follow_more next qs a.set a.failure a.state)

  -- the parses of a child are followed, if there are any
  unfoldable pub followed : Next → List (Parse ℕ) → Parsed → Result Parsed
  followed next set r =
      elim r.failure [ Some e ↦ ok (parsed set (Some e) r.state) | None ↦ follow next r.set set r.state ]

  -- "one per step"; "for 10 and 11 the choices replace the step's unit"; a binder's has its own, "the step as kind 12"
  unfoldable pub step_unit : Step → State → Result State
  step_unit step s = when (between 10 11 (step_number step)) (λ _. ok s) (λ _. spend s)

  -- an optional child: "absent or one". "A present optional is its item"
  unfoldable pub or_absent : Call → ℕ → ℕ → List (Todo ℕ) → Go → Go
  or_absent c j M rest go x items set s = do
    absent ← make text Cell.absent s
    m ← with_cell book text j items absent.cell absent.state
    a ← go x m.cell set m.state
    r ← enter_child None c j M x a.state
    b ← followed (plain_next book text c j rest items) a.set r
    ok (chosen c (skip_from text x) a.failure b)

  -- "stop comes before one more"; "one per choice (stop and one more together)"
  unfoldable pub choice : Call → ℕ → Bool → ℕ → ℕ → Option ℕ → List (Todo ℕ) → Go → Go
  choice c j comma M values close rest go x items set s₀ = do
    s ← spend s₀
    a ← stops book text j values close go x items set s
    r ← enter_child None c j M x a.state
    b ← followed (list_next book text c j comma M values close rest items) a.set r
    ok (chosen c (skip_from text x) a.failure b)

  -- a list from its beginning; the empty chain is there since the variant began
  unfoldable pub listing : Call → ℕ → Bool → ℕ → Option ℕ → List (Todo ℕ) → Go → Go
  listing c j comma M close rest go x items set s =
      make text Cell.empty s >>= (λ e. choice c j comma M e.cell close rest go x items set e.state)

  -- ---- Binders
  -- the item in front of a body, then the body, behind its opening or behind none: 41 "when a body's scope opens,
  -- before the body's unit"
  unfoldable pub body_after : Option (List Entry) → Call → ℕ → ℕ → ℕ → List (Todo ℕ) → Go
  body_after opening c j M item rest x items set s₀ = do
    m ← with_cell book text j items item s₀
    s ← open_scope opening (scope_of c.path) m.state
    r ← enter_child opening c j M x s
    followed (plain_next book text c j rest m.cell) set r

  -- the names stop: the cell of their kinds, then the closing, then the body behind the opening
  unfoldable pub opens : Call → ℕ → List Entry → ℕ → ℕ → ℕ → List (Todo ℕ) → Go
  opens c j names kinds close M rest x items set s = do
    l ← make text (Cell.list kinds) s
    elim (character_end text close x) [
      | None ↦ ok (parsed set (Some (error (skip_from text x) character_wanted close)) l.state)
      | Some y ↦ body_after (Some names) c j M l.cell rest y items set l.state
    ]

  -- a declared name and what follows it, both one level further in: "Reading one counts as a call of a committed
  -- variant without counted steps (..; its kind's cell is made last)"
  unfoldable pub declares : Call → ℕ → List Entry → ℕ → ℕ → ℕ → List (Todo ℕ) → Go
  declares c j names kinds close M rest x items set s₀ = do
    s ← spend s₀
    nested s (λ run. elim (declaration_at book text (skip_from text x)) [
      | None ↦ ok (parsed set (Some (declaration_error book text (skip_from text x))) s)
      | Some d ↦ do
        k ← make text (Cell.number 0 d.value.label) s
        m ← make text (Cell.chain kinds k.cell) k.state
        elim (after_element text true d.end) [
          | goes y ↦ run c j (naming (names ++ (d.value ∷ [])) m.cell close M ∷ rest) y items set m.state
          | halts y ↦ run c j (closing (names ++ (d.value ∷ [])) m.cell close M ∷ rest) y items set m.state
        ]
    ])

  -- "a comma list of names", "the step as kind 12": one unit for each choice, and stop comes before one more
  unfoldable pub name_choice : Call → ℕ → List Entry → ℕ → ℕ → ℕ → List (Todo ℕ) → Go
  name_choice c j names kinds close M rest x items set s₀ = do
    s ← spend s₀
    a ← opens c j names kinds close M rest x items set s
    b ← declares c j names kinds close M rest x items a.set a.state
    ok (chosen c (skip_from text x) a.failure b)

  unfoldable pub steps : Runner
  steps c j [] x items set s = complete book text j x items set s
  steps c j (elements comma M values close ∷ rest) x items set s =
      choice c j comma M values close rest (steps c j rest) x items set s
  steps c j (ending values close ∷ rest) x items set s = stops book text j values close (steps c j rest) x items set s
  steps c j (naming names kinds close M ∷ rest) x items set s =
      name_choice c j names kinds close M rest x items set s
  steps c j (closing names kinds close M ∷ rest) x items set s = opens c j names kinds close M rest x items set s
  steps c j (taking step ∷ rest) x items set s₀ = do
    s ← step_unit step s₀
    elim (step_at book text (scope_of c.path) step x) [
      | Taken.nothing ↦ ok (parsed set (Some (step_error book text (scope_of c.path) step (skip_from text x))) s)
      | Taken.token t ↦
          with_token book text j items t.item s >>= (λ m. steps c j rest t.next m.cell set m.state)
      | Taken.child M ↦ enter_child None c j M x s >>= (λ r. followed (plain_next book text c j rest items) set r)
      | Taken.optional M ↦ or_absent c j M rest (steps c j rest) x items set s
      | Taken.list comma M close y ↦ listing c j comma M close rest (steps c j rest) y items set s
      | Taken.unopened y ↦
          make text Cell.empty s >>= (λ e. stops book text j e.cell None (steps c j rest) y items set e.state)
      | Taken.names close M y ↦
          make text Cell.empty s >>= (λ e. name_choice c j [] e.cell close M rest y items set e.state)
      | Taken.body M ↦ make text Cell.absent s >>= (λ a. body_after None c j M a.cell rest x items set a.state)
    ]

module _ (book : Book) (text : List ℕ) where
  -- a runner with so many levels of nesting left
  unfoldable pub runner : ℕ → Option Runner
  runner zero = None
  runner (suc n) = Some (steps book text (runner n))

  -- the run of a text with so many units
  unfoldable pub run : ℕ → ℕ → Result Parsed
  run units start =
      enter book text (runner most_nesting) [] [] start (skip_from text 0)
      (record { units = units; cells = []; asked = [] })
