-- Document 02 f, by examples: a starting name that is also a reserved word, in steps of each kind that reads words or
-- names, and under marks 1 and 2.
use Rattle.std.specs.Prelude.{◌≡◌, refl, Bool, true, false, List, [], ◌∷◌, ℕ}
use Rattle.book.specs.Check.{check_book, Outcome}
use Rattle.semantics.specs.Values.{Tree, no_trees, ◌▸◌}
use Rattle.semantics.specs.Uses.{use_of, within}
use Rattle.semantics.specs.Tokens.{claimed}
use Rattle.semantics.proofs.ExampleBook.{computing, Row, value, refused, reads}

-- words and names: `a` and `b` are reserved, and `a` is a starting name of kind 2
abbrev entries : List ℕ → List ℕ
entries grammar = 2 ∷ 1 ∷ 1 ∷ 97 ∷ 1 ∷ 1 ∷ 98 ∷ 1 ∷ 2 ∷ 1 ∷ 97 ∷ grammar

-- one variant: `-`, and then a step of a kind, with its a
abbrev book_of : ℕ → ℕ → List ℕ
book_of kind a =
    entries (1 ∷ 0 ∷ 1 ∷ 1 ∷ 255 ∷ 3 ∷ 1 ∷ 2 ∷ 2 ∷ 0 ∷ 45 ∷ 0 ∷ 0 ∷ kind ∷ a ∷ 0 ∷ 0 ∷ [])

-- two nonterminals, the second of mark 2; the first has one variant, `-` and then the second
abbrev identifier_book : List ℕ
identifier_book =
    entries (2 ∷ 0 ∷ 1 ∷ 2 ∷ 0 ∷ 1 ∷ 255 ∷ 3 ∷ 1 ∷ 2 ∷ 2 ∷ 0 ∷ 45 ∷ 0 ∷ 0 ∷ 8 ∷ 1 ∷ 0 ∷ 0 ∷ [])

-- two nonterminals, the first of mark 1 and the second of mark 2; the first is a variable, or the second
abbrev claiming_book : List ℕ
claiming_book =
    entries
    (2 ∷ 1 ∷ 2 ∷ 2 ∷ 0 ∷ 2 ∷ 255 ∷ 3 ∷ 1 ∷ 1 ∷ 255 ∷ 3 ∷ 1 ∷ 1 ∷ 2 ∷ 4 ∷ 0 ∷ 0 ∷ 0 ∷ 8 ∷ 1 ∷ 0 ∷ 0 ∷ [])

-- `-a`, `-b`, `-c`
abbrev minus_a : List ℕ
minus_a = 45 ∷ 97 ∷ []

abbrev minus_b : List ℕ
minus_b = 45 ∷ 98 ∷ []

abbrev minus_c : List ℕ
minus_c = 45 ∷ 99 ∷ []

-- whether a use of mark 1 at place 0 claims what stands there, for variant 1 of `claiming_book`
abbrev claims : List ℕ → Bool
claims text =
    elim (check_book claiming_book) [
      | Outcome.book book ↦ claimed book text (within (use_of book 0 0 1 0) ∷ []) 0
      | Outcome.refusal number place ↦ false
    ]

-- the variable `a`, in variant 0
abbrev variable_a : Row
variable_a = value (Tree.variant 0 (no_trees ▸ Tree.variable 0 2)) 1

pub record ReservedNameAnswers : Type 0 where
  -- "The starting name shall win in steps of kinds 4 and 5", of the right kind; of another, "or give 8"
  pub variable : reads (book_of 4 0) minus_a ≡ variable_a
  pub of_kind : reads (book_of 5 2) minus_a ≡ variable_a
  pub of_another_kind : reads (book_of 5 3) minus_a ≡ refused 30 1 8 3
  -- "kind 6 passed and now gives error 5"
  pub rejected : reads (book_of 6 0) minus_a ≡ refused 30 1 5 0
  -- "Identifiers still refuse reserved words", in kind 2 and in a mark-2 use; and so does kind 7
  pub identifier : reads (book_of 2 0) minus_a ≡ refused 30 1 6 0
  pub identifier_use : reads identifier_book minus_a ≡ refused 30 1 11 1
  pub reserved : reads (book_of 7 0) minus_a ≡ refused 30 1 6 0
  -- a word is read, whatever else it is
  pub word : reads (book_of 1 0) minus_a ≡ value (Tree.variant 0 no_trees) 1
  -- "a mark-1 use didn't claim and now does". No answer shows it: the mark-2 use refuses the word anyway
  pub claiming : claims (97 ∷ []) ≡ true
  pub read_by_claiming : reads claiming_book (97 ∷ []) ≡ variable_a
  -- a reserved word that is no starting name is no variable, and gives 6; kind 6 passes it; no use claims it
  pub no_name : reads (book_of 4 0) minus_b ≡ refused 30 1 6 0
  pub no_name_of_kind : reads (book_of 5 2) minus_b ≡ refused 30 1 6 0
  pub no_name_passes : reads (book_of 6 0) minus_b ≡ refused 31 0 0 0
  pub no_name_unclaimed : claims (98 ∷ []) ≡ false
  -- an identifier that is neither
  pub unknown : reads (book_of 4 0) minus_c ≡ refused 30 1 7 0
  pub unknown_of_kind : reads (book_of 5 2) minus_c ≡ refused 30 1 7 0

pub reserved_name_answers : ReservedNameAnswers
unfolding computing
reserved_name_answers = record {
  variable = refl;
  of_kind = refl;
  of_another_kind = refl;
  rejected = refl;
  identifier = refl;
  identifier_use = refl;
  reserved = refl;
  word = refl;
  claiming = refl;
  read_by_claiming = refl;
  no_name = refl;
  no_name_of_kind = refl;
  no_name_passes = refl;
  no_name_unclaimed = refl;
  unknown = refl;
  unknown_of_kind = refl;
}
