-- The names of a binder that is being read stand in the rows above the free one. Scaffolding: no definition of
-- document 01.
--
-- Plan: of what is left to do only the first part can have names, and its names are those of the rows (`NamesIn`); a
-- row that is put says what it holds (`entry_declared`), and is one name more (`names_more`).
use Rattle.std.specs.Prelude.{◌≡◌, refl, List, [], ◌∷◌, ◌++◌, map, ℕ, zero, suc, ◌+◌, ◌-◌, ◌≤◌, length, set}
use Rattle.std.proofs.Common.{sym, ap, ◌∙◌, arith}
use Rattle.std.specs.Prelude.{Some}
use Rattle.characters.specs.Skipping.{skip_from}
use Rattle.book.specs.Book.{Book, Entry}
use Rattle.book.specs.declared.records.Step.{Step}
use Rattle.semantics.specs.Tokens.{Read, spelled, free_end, kind_at, name_of_kind, declaration_at}
use Rattle.semantics.specs.Steps.{Todo, taking, elements, ending, naming, closing}
use Rattle.semantics.proofs.Theorem.Results.{none_some, some_inj, option_cases}
use Rattle.run_model.specs.Rows.{Row, declared, row_of, on_row, entry_at, names_above}
use Rattle.run_model.specs.Model.{name_place}
use Rattle.run_model.proofs.Keeps.{row_put, row_else}

-- ---- What is left to do
-- no binder is being read
unfoldable pub NoNames : List (Todo ℕ) → Type 0
NoNames [] = Unit {0}
NoNames (taking step ∷ rest) = NoNames rest
NoNames (elements comma M values close ∷ rest) = NoNames rest
NoNames (ending values close ∷ rest) = NoNames rest
NoNames (naming names kinds close M ∷ rest) = ⊥
NoNames (closing names kinds close M ∷ rest) = ⊥

-- the names read so far are those of the rows above row n
abbrev pub NamesAt : List ℕ → List Row → ℕ → List Entry → Type 0
NamesAt text T n names = names_above text T (length names) n ≡ names

unfoldable pub NamesIn : List ℕ → List Row → ℕ → List (Todo ℕ) → Type 0
NamesIn text T n [] = Unit {0}
NamesIn text T n (taking step ∷ rest) = NoNames rest
NamesIn text T n (elements comma M values close ∷ rest) = NoNames rest
NamesIn text T n (ending values close ∷ rest) = NoNames rest
NamesIn text T n (naming names kinds close M ∷ rest) = NamesAt text T n names × NoNames rest
NamesIn text T n (closing names kinds close M ∷ rest) = NamesAt text T n names × NoNames rest

pub no_names_in : (text : List ℕ) (T : List Row) (n : ℕ) (todo : List (Todo ℕ)) → NoNames todo → NamesIn text T n todo
unfolding NoNames NamesIn
no_names_in text T n [] h = tt
no_names_in text T n (taking step ∷ rest) h = h
no_names_in text T n (elements comma M values close ∷ rest) h = h
no_names_in text T n (ending values close ∷ rest) h = h
no_names_in text T n (naming names kinds close M ∷ rest) h = absurd h
no_names_in text T n (closing names kinds close M ∷ rest) h = absurd h

pub steps_no_names : (l : List Step) → NoNames (map taking l)
unfolding NoNames
steps_no_names [] = tt
steps_no_names (s ∷ l) = steps_no_names l

-- ---- Rows
pub names_alike : (text : List ℕ) (T U : List Row) (n i : ℕ) →
    ((j : ℕ) → suc i ≤ j → entry_at text (row_of U j) ≡ entry_at text (row_of T j)) →
    names_above text U n i ≡ names_above text T n i
unfolding names_above
names_alike text T U zero i h = refl
names_alike text T U (suc n) i h = rw (h (i + suc n) (omega arith), names_alike text T U n i h)

-- one name more, in the row below
names_more : (text : List ℕ) (T : List Row) (k m : ℕ) →
    names_above text T (suc k) m ≡ names_above text T k (suc m) ++ (entry_at text (row_of T (suc m)) ∷ [])
unfolding names_above
names_more text T zero m = let e : m + 1 ≡ suc m = omega arith in rw e
names_more text T (suc k) m =
    let e : m + suc (suc k) ≡ suc m + suc k = omega arith in rw (e, names_more text T k m)

length_more : (names : List Entry) (e : Entry) → length (names ++ (e ∷ [])) ≡ suc (length names)
length_more [] e = refl
length_more (n ∷ names) e = ap suc (length_more names e)

-- a name that is declared stands in its row as it was read
entry_declared : (book : Book) (text : List ℕ) (at : ℕ) (d : Read Entry) (r : Row) →
    declaration_at book text at ≡ Some d →
    entry_at text (declared d.value.label (name_place book text at) (d.end - name_place book text at) r) ≡ d.value
unfolding declaration_at name_of_kind name_place
entry_declared book text at d r q =
    option_cases (kind_at book text at)
    (λ e. absurd (none_some (rw (e, declaration_at) at q)))
    (λ k e.
    let p = skip_from text k.end in
    option_cases (free_end book text p)
    (λ missing. absurd (none_some (rw (e, missing, declaration_at, name_of_kind) at q)))
    (λ end there.
    let is : record { end = end; value = record { label = k.value; spelling = spelled text p end } } ≡ d =
    some_inj (rw (e, there, declaration_at, name_of_kind) at q) in
    rw (e, name_place, ← is) refl))

-- behind a declared name its row is one of the names'
pub names_declared : (book : Book) (text : List ℕ) (T : List Row) (m at : ℕ) (d : Read Entry) (names : List Entry) →
    suc m ≤ 200 → length T ≡ 201 → declaration_at book text at ≡ Some d → NamesAt text T (suc m) names →
    NamesAt text (on_row T (suc m)
    (declared d.value.label (name_place book text at) (d.end - name_place book text at))) m
    (names ++ (d.value ∷ []))
names_declared book text T m at d names room size there h =
    let place = name_place book text at in
    let r = declared d.value.label place (d.end - place) (row_of T (suc m)) in
    let U = set T (suc m) r in
    let here : entry_at text (row_of U (suc m)) ≡ d.value =
    ap (entry_at text) (row_put T (suc m) r (omega arith)) ∙ entry_declared book text at d (row_of T (suc m)) there in
    let above : names_above text U (length names) (suc m) ≡ names =
    names_alike text T U (length names) (suc m)
    (λ j l. ap (entry_at text) (row_else T (suc m) j r (λ e. omega arith))) ∙ h in
    rw (length_more names d.value, names_more text U (length names) m, here, above) refl

pub names_length : (text : List ℕ) (T : List Row) (k n : ℕ) → length (names_above text T k n) ≡ k
unfolding names_above
names_length text T zero n = refl
names_length text T (suc k) n = ap suc (names_length text T k n)

-- the names of k rows, and the one that is declared below them
pub names_with : (book : Book) (text : List ℕ) (T : List Row) (k m at : ℕ) (d : Read Entry) →
    suc m ≤ 200 → length T ≡ 201 → declaration_at book text at ≡ Some d →
    names_above text (on_row T (suc m)
    (declared d.value.label (name_place book text at) (d.end - name_place book text at))) (suc k) m
    ≡ names_above text T k (suc m) ++ (d.value ∷ [])
names_with book text T k m at d room size there =
    let names = names_above text T k (suc m) in
    let U = on_row T (suc m) (declared d.value.label (name_place book text at) (d.end - name_place book text at)) in
    let few = names_length text T k (suc m) in
    let more : length (names ++ (d.value ∷ [])) ≡ suc k = length_more names d.value ∙ ap suc few in
    ap (λ i. names_above text U i m) (sym more)
    ∙ names_declared book text T m at d names room size there (ap (λ i. names_above text T i (suc m)) few)
