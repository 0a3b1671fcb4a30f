-- Numbers of a book and of a text that fit into 32 bits. An accepted book's do (FitLaws).
use Rattle.std.specs.Prelude.{List, ℕ, ◌+◌, ◌≤◌, ◌<◌, length}
use Rattle.std.specs.Prelude.{Option, None, Some}
use Rattle.semantics.specs.Numbers.{longest_text}
use Rattle.book.specs.Numbers.{largest_byte}
use Rattle.book.specs.Book.{Book, nth_entry, nth_nonterminal, nth_variant}
use Rattle.tokens.specs.declared.steps.Item.{Item}
use Rattle.tokens.specs.declared.steps.Taken.{Taken}

-- one number fits
abbrev pub Fits : ℕ → Type 0
Fits x = x < 4294967296

pub record Fit (book : Book) (text : List ℕ) : Type 0 where
  pub short : length text ≤ longest_text
  -- names and their kinds
  pub names : Fits (length book.names)
  pub kinds : (i : ℕ) → Fits (nth_entry book.names i).label
  -- the variants of a nonterminal
  pub variants : (N : ℕ) → Fits ((nth_nonterminal book N).first + (nth_nonterminal book N).count)
  -- the level and the steps of a variant
  pub levels : (j : ℕ) → Fits (nth_variant book j).level
  pub few : (j : ℕ) → (nth_variant book j).count ≤ largest_byte
  pub steps : (j : ℕ) → (nth_variant book j).first + (nth_variant book j).count ≤ length book.steps
  pub all : Fits (length book.steps)

-- ---- What a step takes
abbrev pub ItemFits : Option Item → Type 0
ItemFits None = Unit {0}
ItemFits (Some (Item.Name place size)) = Fits place × Fits size
ItemFits (Some (Item.Number value)) = Unit {0}
ItemFits (Some (Item.Variable number kind)) = Fits number × Fits kind
-- two numbers of the code, of 32 bits
ItemFits (Some (Item.Declared depth index)) = Unit {0}

abbrev pub TakenFits : Option Taken → Type 0
TakenFits None = Unit {0}
TakenFits (Some (Taken.Token next item)) = Fits next × ItemFits item
TakenFits (Some (Taken.Child N)) = Unit {0}
TakenFits (Some (Taken.Optional N)) = Unit {0}
TakenFits (Some (Taken.List comma names N closing place)) = Fits place
TakenFits (Some (Taken.Unopened place)) = Fits place
TakenFits (Some (Taken.Body N)) = Unit {0}
