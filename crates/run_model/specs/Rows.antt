-- The table of rows, one row for each level of nesting, and what it says of the open calls. Scaffolding between the
-- definition of the run and the code that keeps such a table: no definition of document 01.
--
-- A row's number is the levels of nesting left: the outermost call has row 200, and a call with n levels left has row
-- n. The open calls around it, the newest first, are the live rows n + 1, n + 2, up to 200. When a call is over its row
-- is live no longer, and keeps what was found while that is followed.
--
-- A declared name is read one level deeper than what is before it, and the row of its level holds it. What a call has
-- to do with openings is one number, its binder: 0 if no opening that was read is around it; 1 if one is; n + 2 if the
-- call is itself the body behind an opening, which declared n names. These stand in the n rows above the body's own,
-- the last declared one nearest. Where the number is 0 no row needs to be searched for a name.
--
-- First the rows and what is done to one; then what the live rows above a row say: the path with its openings, the
-- stored sets and the marks; then governors and claims by rows.
use Rattle.std.specs.Prelude.{Bool, true, false, not, ◌&&◌, ◌||◌, List, [], ◌∷◌, ℕ, zero, suc, ◌+◌, ◌-◌, ltb, eqb}
use Rattle.std.specs.Prelude.{get_or, length, set}
use Rattle.std.specs.Prelude.{Option, None, Some}
use Rattle.characters.specs.Spelling.{part_of}
use Rattle.book.specs.Book.{Book, Entry}
use Rattle.book.specs.Check.{associativity_of}
use Rattle.semantics.specs.Numbers.{most_nesting}
use Rattle.semantics.specs.Values.{Parse}
use Rattle.semantics.specs.Uses.{Use, within, behind, Path, Scope, scope_of, has_mark, minimum_of}
use Rattle.semantics.specs.Tokens.{when}
use Rattle.semantics.specs.Run.{Call, call}

-- a call while it is open (live is 1): its nonterminal, binder and start, the level and associativity (a number) of its
-- variant, where its current child begins, whether its stored parses were asked for (1); the name that is declared at
-- this level: its kind, and where its spelling stands in the text; the call's stored set, and the set of the run at
-- hand
pub record Row : Type 0 where
  pub live : ℕ
  pub nonterminal : ℕ
  pub binder : ℕ
  pub start : ℕ
  pub level : ℕ
  pub associativity : ℕ
  pub child : ℕ
  pub asked : ℕ
  pub kind : ℕ
  pub place : ℕ
  pub size : ℕ
  pub set : List (Parse ℕ)
  pub run : List (Parse ℕ)

abbrev pub row : ℕ → ℕ → ℕ → ℕ → ℕ → ℕ → ℕ → ℕ → ℕ → ℕ → ℕ → List (Parse ℕ) → List (Parse ℕ) → Row
row live nonterminal binder start level associativity child asked kind place size set run = record {
  live = live;
  nonterminal = nonterminal;
  binder = binder;
  start = start;
  level = level;
  associativity = associativity;
  child = child;
  asked = asked;
  kind = kind;
  place = place;
  size = size;
  set = set;
  run = run;
}

-- ---- What is done to a row
-- a call is opened; the variant, the child, the level's name and the run's set are left as they were
abbrev pub opened : ℕ → ℕ → ℕ → Row → Row
opened binder N u r =
    row 1 N binder u r.level r.associativity r.child 0 r.kind r.place r.size [] r.run

abbrev pub ended : Row → Row
ended r =
    row 0 r.nonterminal r.binder r.start r.level r.associativity r.child r.asked r.kind
    r.place r.size r.set r.run

abbrev pub with_variant : ℕ → ℕ → Row → Row
with_variant level associativity r =
    row r.live r.nonterminal r.binder r.start level associativity r.child r.asked r.kind
    r.place r.size r.set r.run

abbrev pub with_child : ℕ → Row → Row
with_child child r =
    row r.live r.nonterminal r.binder r.start r.level r.associativity child r.asked r.kind
    r.place r.size r.set r.run

abbrev pub was_asked : Row → Row
was_asked r =
    row r.live r.nonterminal r.binder r.start r.level r.associativity r.child 1 r.kind
    r.place r.size r.set r.run

abbrev pub with_set : List (Parse ℕ) → Row → Row
with_set set r =
    row r.live r.nonterminal r.binder r.start r.level r.associativity r.child r.asked
    r.kind r.place r.size set r.run

abbrev pub with_run : List (Parse ℕ) → Row → Row
with_run run r =
    row r.live r.nonterminal r.binder r.start r.level r.associativity r.child r.asked
    r.kind r.place r.size r.set run

-- a name is declared at a row's level, which is no call's: its kind, and where its spelling stands
abbrev pub declared : ℕ → ℕ → ℕ → Row → Row
declared kind place size r =
    row 0 r.nonterminal r.binder r.start r.level r.associativity r.child r.asked kind place size
    r.set r.run

-- the call's set is what its run found
abbrev pub copied : Row → Row
copied r = with_set r.run r

-- ---- The table
abbrev pub no_row : Row
no_row = row 0 0 0 0 0 0 0 0 0 0 0 [] []

abbrev pub row_of : List Row → ℕ → Row
row_of T i = get_or T i no_row

abbrev pub on_row : List Row → ℕ → (Row → Row) → List Row
on_row T i f = set T i (f (row_of T i))

-- ---- The open calls above a row, newest first
unfoldable pub keep_if : {A : Type 0} → Bool → A → List A → List A
keep_if true a l = a ∷ l
keep_if false a l = l

-- of k rows from i on, what F says of the live ones
unfoldable pub open_from : {A : Type 0} → (Row → A) → List Row → ℕ → ℕ → List A
open_from F T zero i = []
open_from F T (suc k) i = keep_if (eqb (row_of T i).live 1) (F (row_of T i)) (open_from F T k (suc i))

abbrev pub open_above : {A : Type 0} → (Row → A) → List Row → ℕ → List A
open_above F T n = open_from F T (most_nesting - n) (suc n)

-- the use that a row's call is of
abbrev pub use_at : Row → Use
use_at r = record {
  nonterminal = r.nonterminal;
  start = r.start;
  level = r.level;
  associativity = associativity_of r.associativity;
  child = r.child;
}

abbrev pub asked_at : Row → Bool
asked_at r = eqb r.asked 1

abbrev pub stored_of : Row → List (Parse ℕ)
stored_of r = r.set

abbrev pub sets_of : List Row → ℕ → List (List (Parse ℕ))
sets_of T n = open_above stored_of T n

abbrev pub marks_of : List Row → ℕ → List Bool
marks_of T n = open_above asked_at T n

-- ---- Openings
-- the binder of a child: an opening around a call is around its children too
unfoldable pub inherited : ℕ → ℕ
inherited zero = 0
inherited (suc b) = 1

-- the binder of a child: of a body behind an opening, the opening's names
abbrev pub binder_for : Option (List Entry) → ℕ → ℕ
binder_for None b = inherited b
binder_for (Some names) b = suc (suc (length names))

-- a call with this binder is the body behind an opening
unfoldable pub is_body : ℕ → Bool
is_body zero = false
is_body (suc zero) = false
is_body (suc (suc n)) = true

-- the name that is declared at a row's level
abbrev pub entry_at : List ℕ → Row → Entry
entry_at text r = record { label = r.kind; spelling = part_of text r.place r.size }

-- the names of the n rows above row i, the highest row's first
unfoldable pub names_above : List ℕ → List Row → ℕ → ℕ → List Entry
names_above text T zero i = []
names_above text T (suc n) i = entry_at text (row_of T (i + suc n)) ∷ names_above text T n i

-- a path, behind the opening that row i's call with this binder is the body of
unfoldable pub behind_names : List ℕ → List Row → ℕ → ℕ → Path → Path
behind_names text T i zero path = path
behind_names text T i (suc zero) path = path
behind_names text T i (suc (suc n)) path = behind (names_above text T n i) ∷ path

-- ---- The path of the open calls above a row
-- within the call of row i, if it is live
unfoldable pub within_row : Bool → List ℕ → List Row → ℕ → Path → Path
within_row true text T i path = within (use_at (row_of T i)) ∷ behind_names text T i (row_of T i).binder path
within_row false text T i path = path

-- the live ones of k rows from i on
unfoldable pub path_from : List ℕ → List Row → ℕ → ℕ → Path
path_from text T zero i = []
path_from text T (suc k) i = within_row (eqb (row_of T i).live 1) text T i (path_from text T k (suc i))

abbrev pub path_of : List ℕ → List Row → ℕ → Path
path_of text T n = path_from text T (most_nesting - n) (suc n)

-- the path of a use at row n with a binder
abbrev pub path_at : List ℕ → List Row → ℕ → ℕ → Path
path_at text T n binder = behind_names text T n binder (path_of text T n)

-- its scope; where no opening is around it, the rows are not looked at
unfoldable pub scope_at : List ℕ → List Row → ℕ → ℕ → Scope
scope_at text T n zero = []
scope_at text T n (suc b) = scope_of (path_at text T n (suc b))

-- the call of row c, and its scope
abbrev pub call_of : List ℕ → List Row → ℕ → Call
call_of text T c =
    call (path_at text T c (row_of T c).binder) (sets_of T c) (row_of T c).nonterminal (row_of T c).start
    (row_of T c).set

abbrev pub scope_in : List ℕ → List Row → ℕ → Scope
scope_in text T c = scope_at text T c (row_of T c).binder

-- ---- Governors and claims, by rows
-- the call of a row is open and the body behind an opening: what is around it has another scope
unfoldable pub begins_scope : Row → Bool
begins_scope r = eqb r.live 1 && is_body r.binder

-- the call of a row is open and of the nonterminal, and its current child begins at u
unfoldable pub governs : Row → ℕ → ℕ → Bool
governs r N u = eqb r.live 1 && (eqb r.nonterminal N && eqb r.child u)

-- a row that was found further out counts if no scope begins before it; else none does, which is the row behind all
unfoldable pub in_scope : Bool → ℕ → ℕ
in_scope true g = suc most_nesting
in_scope false g = g

-- the first governing one of k rows from i on, up to where a scope begins, or the row behind all
unfoldable pub newest_governor : List Row → ℕ → ℕ → ℕ → ℕ → ℕ
newest_governor T N u zero i = i
newest_governor T N u (suc k) i =
    elim (governs (row_of T i) N u) [
      | true ↦ i
      | false ↦ in_scope (begins_scope (row_of T i)) (newest_governor T N u k (suc i))
    ]

-- what the governor of a use says: the minimum, or, for a child at the governor's own start, the governor's row
pub data RowGovernor : Type 0 where
  minimum same_start : ℕ → RowGovernor

-- what row g says, if there is one
unfoldable pub governor_at : List Row → ℕ → ℕ → RowGovernor
governor_at T u g =
    when (ltb most_nesting g) (λ _. minimum 0)
    (λ _. when (eqb (row_of T g).start u) (λ _. same_start g) (λ _. minimum (minimum_of (use_at
    (row_of T g)).associativity (row_of T g).level)))

-- of a use at row n with a binder
abbrev pub governor_of : List Row → ℕ → ℕ → ℕ → ℕ → RowGovernor
governor_of T n binder N u =
    governor_at T u (in_scope (is_body binder) (newest_governor T N u (most_nesting - n) (suc n)))

-- the call of a row is open and of mark 1, and begins at u
unfoldable pub claims : Book → Row → ℕ → Bool
claims book r u = eqb r.live 1 && (has_mark book 1 r.nonterminal && eqb r.start u)

-- one of k rows from i on claims, up to where a scope begins
unfoldable pub any_claims : Book → List Row → ℕ → ℕ → ℕ → Bool
any_claims book T u zero i = false
any_claims book T u (suc k) i =
    claims book (row_of T i) u || (not (begins_scope (row_of T i)) && any_claims book T u k (suc i))

-- one claims a use at row n with a binder
abbrev pub claims_use : Book → List Row → ℕ → ℕ → ℕ → Bool
claims_use book T n binder u = not (is_body binder) && any_claims book T u (most_nesting - n) (suc n)
