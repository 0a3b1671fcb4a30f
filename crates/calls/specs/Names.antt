-- What the search for a declared name gives, call by call outwards. It is no definition of document 02: `variable_in`
-- of semantics is, on the scope that the rows give (`scope_at` of run_model's Rows).
use Rattle.std.specs.Prelude.{cond, List, ℕ, zero, suc, eqb}
use Rattle.std.specs.Prelude.{Option, None, Some}
use Rattle.book.specs.Book.{lookup_name}
use Rattle.book.specs.declared.names.StartingName.{StartingName}
use Rattle.semantics.specs.Tokens.{Item, Variable}
use Rattle.run_model.specs.Rows.{Row, is_body, names_above}
use Rattle.calls.specs.declared.names.Declared.{Declared}

-- the code's answer, as the definitions have it
abbrev pub declared_of : Option Declared → Option Variable
declared_of None = None
declared_of (Some n) = Some (record { kind = n.kind; item = Item.declared n.depth.0 n.index.0 })

-- the binder of a row's call, if that is open
abbrev pub open_binder : Row → ℕ
open_binder r = cond (eqb r.live 1) r.binder 0

-- how many names the opening declared that a call with this binder is the body behind
unfoldable pub name_count : ℕ → ℕ
name_count zero = 0
name_count (suc zero) = 0
name_count (suc (suc n)) = n

-- the depth of what is around a call with this binder
abbrev pub depth_past : ℕ → ℕ → ℕ
depth_past binder depth = cond (is_body binder) (suc depth) depth

-- a name of a binder at this depth
unfoldable pub name_in : ℕ → Option StartingName → Option Variable
name_in depth (Some n) = Some (record { kind = n.kind; item = Item.declared depth n.number })
name_in depth None = None

-- which name of the own opening of row i's call, with this binder, a spelling is
abbrev pub own_name : List ℕ → List Row → ℕ → ℕ → ℕ → List ℕ → Option Variable
own_name text T i binder depth spelling =
    name_in depth (lookup_name (names_above text T (name_count binder) i) spelling)
