-- The run once more, with errors that are told for re-entries and claimed names: what "The run" says from a call's
-- governor on. `run_with_lem` of ErrorLaws/Unseen holds it to the run's own definition, whatever is told.
use Rattle.std.specs.Prelude.{Bool, false, List, [], ◌∷◌, ℕ, zero, suc, get_or}
use Rattle.std.specs.Prelude.{Option, None, Some}
use Rattle.characters.specs.Skipping.{skip_from}
use Rattle.book.specs.Book.{Entry, Book}
use Rattle.semantics.specs.Numbers.{most_nesting, character_wanted}
use Rattle.semantics.specs.Values.{Parse}
use Rattle.semantics.specs.Uses.{Path, behind_any, scope_of, within, use_of, has_mark, minimum, same_start, governor}
use Rattle.semantics.specs.Tokens.{when, character_end, free_end, claimed}
use Rattle.semantics.specs.Steps.{Taken, step_at, Todo, taking, elements, ending, naming, closing}
use Rattle.semantics.specs.Cells.{Cell}
use Rattle.semantics.specs.Errors.{Error, error, step_error}
use Rattle.semantics.specs.Run.{Result, ok, ◌>>=◌, State, Parsed, parsed, Call, call, Runner, Go, kept, ask}
use Rattle.semantics.specs.Run.{others, with_asked}
use Rattle.semantics.specs.Run.{spend, make, open_scope, chosen, with_cell, with_token, complete}
use Rattle.semantics.specs.Run.{run_call, named, plain_next, list_next, stops, nested, reentry, followed}
use Rattle.semantics.specs.Run.{step_unit, declares}

module _ (told : ℕ → ℕ → Error) (book : Book) (text : List ℕ) (inner : Option Runner) where
  unfoldable pub identifier_with : Call → State → Result Parsed
  identifier_with c s =
      when (claimed book text c.path c.start)
      (λ _. ok (parsed [] (Some (told c.start c.nonterminal)) s))
      (λ _. named book text c s (free_end book text c.start))

  unfoldable pub enter_with : Path → List (List (Parse ℕ)) → ℕ → ℕ → State → Result Parsed
  enter_with path sets N u s₀ = do
    s ← spend s₀
    elim (governor path N u) [
      | same_start i f around ↦
          ok (reentry book text inner (kept f (get_or sets i [])) (told u N) (with_asked s (ask i s.asked)))
      | minimum m ↦ nested book text inner s (λ run.
          let c = call path sets N u [] in
          when (has_mark book 2 N) (λ _. identifier_with c s)
          (λ _. do
            r ← run_call book text run c m (with_asked s (false ∷ s.asked))
            ok (parsed r.set r.failure (with_asked r.state (others r.state.asked)))))
    ]

  unfoldable pub enter_child_with : Option (List Entry) → Call → ℕ → ℕ → ℕ → State → Result Parsed
  enter_child_with opening c j M x s =
      let at = skip_from text x in
      enter_with (behind_any opening (within (use_of book c.nonterminal c.start j at) ∷ c.path))
      (c.mine ∷ c.stored) M at s

  unfoldable pub or_absent_with : Call → ℕ → ℕ → List (Todo ℕ) → Go → Go
  or_absent_with c j M rest go x items set s = do
    absent ← make text Cell.absent s
    m ← with_cell book text j items absent.cell absent.state
    a ← go x m.cell set m.state
    r ← enter_child_with None c j M x a.state
    b ← followed book text inner (plain_next book text c j rest items) a.set r
    ok (chosen c (skip_from text x) a.failure b)

  unfoldable pub choice_with : Call → ℕ → Bool → ℕ → ℕ → Option ℕ → List (Todo ℕ) → Go → Go
  choice_with c j comma M values close rest go x items set s₀ = do
    s ← spend s₀
    a ← stops book text j values close go x items set s
    r ← enter_child_with None c j M x a.state
    b ← followed book text inner (list_next book text c j comma M values close rest items) a.set r
    ok (chosen c (skip_from text x) a.failure b)

  unfoldable pub body_after_with : Option (List Entry) → Call → ℕ → ℕ → ℕ → List (Todo ℕ) → Go
  body_after_with opening c j M item rest x items set s₀ = do
    m ← with_cell book text j items item s₀
    s ← open_scope opening (scope_of c.path) m.state
    r ← enter_child_with opening c j M x s
    followed book text inner (plain_next book text c j rest m.cell) set r

  unfoldable pub opens_with : Call → ℕ → List Entry → ℕ → ℕ → ℕ → List (Todo ℕ) → Go
  opens_with c j names kinds close M rest x items set s = do
    l ← make text (Cell.list kinds) s
    elim (character_end text close x) [
      | None ↦ ok (parsed set (Some (error (skip_from text x) character_wanted close)) l.state)
      | Some y ↦ body_after_with (Some names) c j M l.cell rest y items set l.state
    ]

  -- a declared name calls no nonterminal itself, and what follows it runs one level further in
  unfoldable pub name_choice_with : Call → ℕ → List Entry → ℕ → ℕ → ℕ → List (Todo ℕ) → Go
  name_choice_with c j names kinds close M rest x items set s₀ = do
    s ← spend s₀
    a ← opens_with c j names kinds close M rest x items set s
    b ← declares book text inner c j names kinds close M rest x items a.set a.state
    ok (chosen c (skip_from text x) a.failure b)

  unfoldable pub steps_with : Runner
  steps_with c j [] x items set s = complete book text j x items set s
  steps_with c j (elements comma M values close ∷ rest) x items set s =
      choice_with c j comma M values close rest (steps_with c j rest) x items set s
  steps_with c j (ending values close ∷ rest) x items set s =
      stops book text j values close (steps_with c j rest) x items set s
  steps_with c j (naming names kinds close M ∷ rest) x items set s =
      name_choice_with c j names kinds close M rest x items set s
  steps_with c j (closing names kinds close M ∷ rest) x items set s =
      opens_with c j names kinds close M rest x items set s
  steps_with c j (taking step ∷ rest) x items set s₀ = do
    s ← step_unit book text inner step s₀
    elim (step_at book text (scope_of c.path) step x) [
      | Taken.nothing ↦ ok (parsed set (Some (step_error book text (scope_of c.path) step (skip_from text x))) s)
      | Taken.token t ↦
          with_token book text j items t.item s >>= (λ m. steps_with c j rest t.next m.cell set m.state)
      | Taken.child M ↦
          enter_child_with None c j M x s >>= (λ r. followed book text inner (plain_next book text c j rest items) set
          r)
      | Taken.optional M ↦ or_absent_with c j M rest (steps_with c j rest) x items set s
      | Taken.list comma M close y ↦
          make text Cell.empty s
          >>= (λ e. choice_with c j comma M e.cell close rest (steps_with c j rest) y items set e.state)
      | Taken.unopened y ↦
          make text Cell.empty s >>= (λ e. stops book text j e.cell None (steps_with c j rest) y items set e.state)
      | Taken.names close M y ↦
          make text Cell.empty s >>= (λ e. name_choice_with c j [] e.cell close M rest y items set e.state)
      | Taken.body M ↦ make text Cell.absent s >>= (λ a. body_after_with None c j M a.cell rest x items set a.state)
    ]

module _ (told : ℕ → ℕ → Error) (book : Book) (text : List ℕ) where
  unfoldable pub runner_with : ℕ → Option Runner
  runner_with zero = None
  runner_with (suc n) = Some (steps_with told book text (runner_with n))

  unfoldable pub run_with : ℕ → ℕ → Result Parsed
  run_with units start =
      enter_with told book text (runner_with most_nesting) [] [] start (skip_from text 0)
      (record { units = units; cells = []; asked = [] })
