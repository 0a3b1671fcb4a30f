-- Document 01, "Derivations": uses, paths and governors; with document 02 d, scopes.
use Rattle.std.specs.Prelude.{Bool, true, false, ◌&&◌, List, [], ◌∷◌, ℕ, zero, suc, leb, ltb, eqb}
use Rattle.std.specs.Prelude.{Option, None, Some}
use Rattle.book.specs.Book.{Entry, Book, nth_nonterminal, nth_variant, mark_number}
use Rattle.book.specs.declared.records.Associativity.{Associativity}
use Rattle.semantics.specs.Values.{Parse}

-- an enclosing use: its nonterminal and start, the level and associativity of its variant, and where its current child
-- begins
pub record Use : Type 0 where
  pub nonterminal : ℕ
  pub start : ℕ
  pub level : ℕ
  pub associativity : Associativity
  pub child : ℕ

-- a use of N at u, with variant j, whose child begins at x
abbrev pub use_of : Book → ℕ → ℕ → ℕ → ℕ → Use
use_of book N u j x =
    let v = nth_variant book j in
    record { nonterminal = N; start = u; level = v.level; associativity = v.associativity; child = x }

-- "Mark 0 plain; 1 calls `try_claim_as_var` first; 2 is `identifier_nonterminal`"; document 02 d, the binder "as mark
-- 3"
abbrev pub has_mark : Book → ℕ → ℕ → Bool
has_mark book mark N = eqb (mark_number (nth_nonterminal book N).mark) mark

-- what a use stands in: within an enclosing use, or behind an opening that was read, with the names it declared in
-- order
pub data Enclosing : Type 0 where
  within : Use → Enclosing
  behind : List Entry → Enclosing

-- "Its path lists the enclosing uses", the nearest first, and among them the openings that were read
abbrev pub Path : Type 0
Path = List Enclosing

-- the path of a body: behind its opening, or, without one, as it is
abbrev pub behind_any : Option (List Entry) → Path → Path
behind_any None path = path
behind_any (Some names) path = behind names ∷ path

-- document 02 d, "Derivations are now taken over a scope as well as a place": the scope of a use is the names declared
-- in the openings around it, the innermost binder first
abbrev pub Scope : Type 0
Scope = List (List Entry)

unfoldable pub scope_of : Path → Scope
scope_of [] = []
scope_of (within f ∷ path) = scope_of path
scope_of (behind names ∷ path) = names ∷ scope_of path

-- what the governor of a use says: the minimum, or, for a child at the governor's own start, the governor: its number
-- in the path, which only the run asks for, itself and its own path
pub data Governor : Type 0 where
  minimum : ℕ → Governor
  same_start : ℕ → Use → Path → Governor

-- "minimum is the governor's variant level plus 1 for Left and None, the level for Right, 0 for Both"
abbrev pub minimum_of : Associativity → ℕ → ℕ
minimum_of Associativity.Left level = suc level
minimum_of Associativity.Right level = level
minimum_of Associativity.None level = suc level
minimum_of Associativity.Both level = 0

-- one enclosing use more
unfoldable pub outwards : Governor → Governor
outwards (minimum m) = minimum m
outwards (same_start i f path) = same_start (suc i) f path

-- whether the use f governs, and whether the child begins at its start; else what the uses around it say
unfoldable pub govern : Bool → Bool → Use → Path → Governor → Governor
govern true true f path around = same_start zero f path
govern true false f path around = minimum (minimum_of f.associativity f.level)
govern false b f path around = outwards around

-- "Its governor is the nearest enclosing use of N, in the same scope .., whose current child begins at u. No governor:
-- minimum 0"; document 02 d, "a governor must have the same scope": two uses of a path have the same scope exactly
-- when no opening was read between them
unfoldable pub governor : Path → ℕ → ℕ → Governor
governor [] N u = minimum 0
governor (behind names ∷ path) N u = minimum 0
governor (within f ∷ path) N u =
    govern (eqb f.nonterminal N && eqb f.child u) (eqb f.start u) f path (governor path N u)

-- "kept when level is at least (Left) or above (Right, None) the governor's variant level; Both keeps all"
abbrev pub keeps_level : Associativity → ℕ → ℕ → Bool
keeps_level Associativity.Left level found = leb level found
keeps_level Associativity.Right level found = ltb level found
keeps_level Associativity.None level found = ltb level found
keeps_level Associativity.Both level found = true

abbrev pub keeps : {Value : Type 0} → Use → Parse Value → Bool
keeps f p = keeps_level f.associativity f.level p.level
