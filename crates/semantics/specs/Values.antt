-- Document 01, "Derivations", its last paragraph: "A value is a tree"; and "The answer", for what is whole.
use Rattle.std.specs.Prelude.{ℕ, Bool, List, eqb, length}
use Rattle.characters.specs.Skipping.{skip_from}
use Rattle.book.specs.declared.records.Associativity.{Associativity}

infixl 60 ◌▸◌
mutual
  -- "a variant's number and items in step order; passing, the child's value; for mark 2 the spelling. Items are an
  -- identifier's spelling, a number, a variable's name number and kind, a child's value, absent, or a list of values".
  -- The value of a parse is a variant or a name. Document 02 d: "In a value, a declared variable shows its binder's
  -- depth outwards and its index within that binder"
  pub data Tree : Type 0 where
    variant : ℕ → Trees → Tree
    name : List ℕ → Tree
    number : ℕ → Tree
    variable : ℕ → ℕ → Tree
    declared : ℕ → ℕ → Tree
    absent : Tree
    list : Trees → Tree

  -- trees in order, the last one outermost
  pub data Trees : Type 0 where
    no_trees : Trees
    ◌▸◌ : Trees → Tree → Trees

-- "the parse is (rest, level, associativity, value)"; a value is a tree, or a cell that stands for one
pub record Parse (Value : Type 0) : Type 0 where
  pub rest : ℕ
  pub level : ℕ
  pub associativity : Associativity
  pub value : Value

-- what stands for a parse where a list has none
abbrev pub absent_parse : Parse ℕ
absent_parse = record { rest = 0; level = 0; associativity = Associativity.Left; value = 0 }

-- "A parse is whole, and its derivation reaches the end, when skipping from its rest gives the text's length"
abbrev pub whole : {Value : Type 0} → List ℕ → Parse Value → Bool
whole text p = eqb (skip_from text p.rest) (length text)
