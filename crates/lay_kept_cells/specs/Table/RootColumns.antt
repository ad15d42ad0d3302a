-- Which root of which context each formatting context is. The formatting contexts of a context (CSS 2.2, 9.4.1) are that of its own box
-- and those of the anonymous tables and cells in it (17.2.1), in this order, and they have the numbers from its first one on.
use Rattle.std.specs.Prelude.{ℕ, suc, ◌≡◌, ◌+◌, ◌<◌, Bool, true, false, List, [], ◌∷◌, ◌++◌, length, slice_index, slice_index_or}
use Rattle.lay_contexts.specs.Contexts.{Context}
use Rattle.lay_contexts.specs.FormattingContexts.{FormattingContext}
use Rattle.lay_contexts.specs.FormattingContextList.{first_number}
use Rattle.lay_cell_work.specs.PresentInputs.{root_count}
use Rattle.lay_kept_cells.specs.declared.table.context_root.ContextRoot.{ContextRoot}

abbrev pub no_root : ContextRoot
no_root = record { context = 0; root = 0 }

abbrev pub root_at : List ContextRoot → ℕ → ContextRoot
root_at roots i = slice_index_or roots i no_root

-- it is the one with the number i
pub record IsRootOf (contexts : List Context) (r : ContextRoot) (i : ℕ) : Type 0 where
  pub context : r.context < length contexts
  pub root : r.root < root_count contexts r.context
  pub number : first_number contexts r.context + r.root ≡ i

-- these are the first n
pub record AreRootsTo (contexts : List Context) (roots : List ContextRoot) (n : ℕ) : Type 0 where
  pub count : length roots ≡ n
  pub each : (i : ℕ) → i < n → IsRootOf contexts (root_at roots i) i

-- and these the numbers of the first ones of the first n contexts
pub record AreFirstNumbers (contexts : List Context) (firsts : List ℕ) (n : ℕ) : Type 0 where
  pub count : length firsts ≡ n
  pub each : (c : ℕ) → c < n → slice_index firsts c ≡ first_number contexts c

-- where a formatting context is no anonymous one, it is the first one of the next context
abbrev pub with_first : (is_anonymous : Bool) → ℕ → List ℕ → List ℕ
with_first true i firsts = firsts
with_first false i firsts = firsts ++ i ∷ []

-- of the first n formatting contexts, with the contexts that they are of
pub record AreRootColumnsTo (contexts : List Context) (roots : List ContextRoot) (firsts : List ℕ) (n : ℕ) : Type 0 where
  pub roots_are : AreRootsTo contexts roots n
  pub firsts_are : AreFirstNumbers contexts firsts (length firsts)
  pub none : n ≡ 0 → length firsts ≡ 0
  pub last : (i : ℕ) → suc i ≡ n → length firsts ≡ suc (root_at roots i).context

-- of all, and the number behind the last one as if another context came
pub record AreRootColumns (contexts : List Context) (all : List FormattingContext) (roots : List ContextRoot) (firsts : List ℕ)
    : Type 0 where
  pub roots_are : AreRootsTo contexts roots (length all)
  pub firsts_are : AreFirstNumbers contexts firsts (suc (length contexts))
