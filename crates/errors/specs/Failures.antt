-- `counted` and `failed_call` of the run, over the numbers that they read of a call rather than the call.
--
-- Contents:
-- - counted, failed_call
-- - they are the run's, and `chosen_failure` is: counted-run, failed_call_run, chosen-run
-- - errors that consumed nothing since a choice drop; another stays: choice_drops, choice_keeps
use Rattle.std.specs.Prelude.{Bool, cond, List, ◌≡◌, refl, ℕ}
use Rattle.std.specs.Prelude.{Option, None, Some}
use Rattle.book.specs.Book.{Book, nth_variant}
use Rattle.semantics.specs.Numbers.{nonterminal_wanted, more_wanted}
use Rattle.semantics.specs.Errors.{Error, error, join, beyond, choice_error, chosen_failure}
use Rattle.semantics.specs.Run as run

-- what a variant's failure counts for a call that begins at `start`
unfoldable pub counted : Bool → ℕ → Option Error → Option Error
counted committed start None = None
counted committed start (Some e) = cond committed (beyond start e) None

-- what a call of nonterminal N without a parse gives
unfoldable pub failed_call : ℕ → ℕ → Option Error → Error
failed_call start N None = error start nonterminal_wanted N
failed_call start N (Some e) = e

-- ---- They are the run's
pub counted_run :
    (book : Book) (text : List ℕ) (c : run.Call) (j : ℕ) (e : Option Error) →
    run.counted book text c j e ≡ counted (nth_variant book j).committed c.start e
unfolding counted run.counted
counted_run book text c j None = refl
counted_run book text c j (Some e) = refl

pub failed_call_run : (c : run.Call) (e : Option Error) → run.failed_call c e ≡ failed_call c.start c.nonterminal e
unfolding failed_call run.failed_call
failed_call_run c None = refl
failed_call_run c (Some e) = refl

chosen_both :
    (c : run.Call) (at : ℕ) (a : Error) (b : run.Parsed) (f : Option Error) →
    b.failure ≡ f → (run.chosen c at (Some a) b).failure ≡ chosen_failure at c.nonterminal (Some a) f
unfolding chosen_failure run.chosen
chosen_both c at a b None e = rw e
chosen_both c at a b (Some x) e = rw e

pub chosen_run :
    (c : run.Call) (at : ℕ) (a : Option Error) (b : run.Parsed) →
    (run.chosen c at a b).failure ≡ chosen_failure at c.nonterminal a b.failure
unfolding chosen_failure run.chosen
chosen_run c at None b = refl
chosen_run c at (Some a) b = chosen_both c at a b b.failure refl

-- ---- Errors that consumed nothing since a choice drop; another stays
pub choice_drops : (at N : ℕ) (a b : Error) → beyond at (join a b) ≡ None →
    choice_error at N a b ≡ error at more_wanted N
unfolding choice_error
choice_drops at N a b e = rw (e, choice_error)

pub choice_keeps : (at N : ℕ) (a b : Error) {x : Error} → beyond at (join a b) ≡ Some x → choice_error at N a b ≡ x
unfolding choice_error
choice_keeps at N a b e = rw (e, choice_error)
