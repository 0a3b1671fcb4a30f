-- Marks only come: a call that was asked for its stored parses before a run has been asked after it. Recursion on the
-- run, a line for each of its rules.
use Rattle.std.specs.Prelude.{◌≡◌, Bool, List, ℕ}
use Rattle.std.proofs.Common.{sym, subst}
use Rattle.book.specs.Book.{Book}
use Rattle.semantics.specs.Values.{Tree, Trees, Parse}
use Rattle.semantics.specs.Uses.{Path}
use Rattle.semantics.specs.Steps.{Todo}
use Rattle.semantics.specs.Run.{others}
use Rattle.semantics.proofs.Theorem.Lists.{Le, le_refl, le_then, le_others, le_both_others, le_ask}
use Rattle.semantics.proofs.Theorem.BigStep.{Sets, Open, Follows}
use Rattle.semantics.proofs.Theorem.BigStep.{Enters, again, identifier, quiet, barren, grown, Runs, runs, Rounds}
use Rattle.semantics.proofs.Theorem.BigStep.{last, more, Variants, no_more, too_low, taken}
use Rattle.semantics.proofs.Theorem.BigStep.{Steps, s_done, s_nothing, s_token, s_child, s_optional, s_list}
use Rattle.semantics.proofs.Theorem.BigStep.{s_unopened, s_elements, s_unclosed, s_ending}
use Rattle.semantics.proofs.Theorem.BigStep.{s_names, s_body, s_no_name, s_name, s_unopening, s_opening}
use Rattle.semantics.proofs.Theorem.BigStep.{Each, e_none, e_one}

-- marks that come to be equal to others
le_to : {A B C : List Bool} → C ≡ B → Le A B → Le A C
le_to {A} e h = subst (λ X. Le A X) (sym e) h

module _ (book : Book) (text : List ℕ) where
  mutual
    pub m_enters : {P : Path} {S : Sets} {A : List Bool} {N u : ℕ} {R : List (Parse Tree)} {A' : List Bool} →
        Enters book text P S A N u R A' → Le A A'
    m_enters (again {A = A} {i = i} g r a) = le_to a (le_ask A i)
    m_enters (identifier g k r a) = le_to a le_refl
    m_enters (quiet g k v b a) = le_to a (le_others (m_runs v))
    m_enters (barren g k v r a) = le_to a (le_others (m_runs v))
    m_enters (grown g k v rs) = le_then (le_others (m_runs v)) (m_rounds rs)

    pub m_runs : {P : Path} {S : Sets} {m N u : ℕ} {T : List (Parse Tree)} {B : List Bool} {R : List (Parse Tree)}
        {B' : List Bool} → Runs book text P S m N u T B R B' → Le B B'
    m_runs (runs v) = m_variants v

    -- rounds begin with the call's own mark and end without it
    pub m_rounds : {P : Path} {S : Sets} {m N u : ℕ} {T : List (Parse Tree)} {B : List Bool} {U : List (Parse Tree)}
        {A' : List Bool} → Rounds book text P S m N u T B U A' → Le (others B) A'
    m_rounds (last v sub t a) = le_to a (le_both_others (m_runs v))
    m_rounds (more v j rs) = le_then (le_both_others (m_runs v)) (m_rounds rs)

    pub m_variants : {o : Open} {m n j : ℕ} {B : List Bool} {R : List (Parse Tree)} {B' : List Bool} →
        Variants book text o m n j B R B' → Le B B'
    m_variants no_more = le_refl
    m_variants (too_low low v) = m_variants v
    m_variants (taken high s v j) = le_then (m_steps s) (m_variants v)

    pub m_steps : {o : Open} {j : ℕ} {todo : List (Todo Trees)} {x : ℕ} {items : Trees} {B : List Bool}
        {R : List (Parse Tree)} {B' : List Bool} → Steps book text o j todo x items B R B' → Le B B'
    m_steps (s_done r) = le_refl
    m_steps (s_nothing e) = le_refl
    m_steps (s_token e s) = m_steps s
    m_steps (s_child e c es) = le_then (m_enters c) (m_each es)
    m_steps (s_optional e s c es j) = le_then (m_steps s) (le_then (m_enters c) (m_each es))
    m_steps (s_list e s) = m_steps s
    m_steps (s_unopened e s) = m_steps s
    m_steps (s_elements s c es j) = le_then (m_steps s) (le_then (m_enters c) (m_each es))
    m_steps (s_unclosed e) = le_refl
    m_steps (s_ending e s) = m_steps s
    m_steps (s_names e s) = m_steps s
    m_steps (s_body e c es) = le_then (m_enters c) (m_each es)
    m_steps (s_no_name e s) = m_steps s
    m_steps (s_name e l s t j) = le_then (m_steps s) (m_steps t)
    m_steps (s_unopening e) = le_refl
    m_steps (s_opening e c es) = le_then (m_enters c) (m_each es)

    pub m_each : {o : Open} {j : ℕ} {c : Follows} {Q : List (Parse Tree)} {B : List Bool} {R : List (Parse Tree)}
        {B' : List Bool} → Each book text o j c Q B R B' → Le B B'
    m_each e_none = le_refl
    m_each (e_one s es j) = le_then (m_steps s) (m_each es)
