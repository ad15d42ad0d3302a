-- The keys of touched contexts are the only ones, and say of each context whether the edit touches it.
use Rattle.std.specs.Prelude.{ℕ, ◌≡◌, ◌<◌, List, length}
use Rattle.lay_cells.specs.Shapes.{IsEachOnce, IsIn}
use Rattle.lay_contexts.specs.Contexts.{Context}
use Rattle.lay_contexts.specs.FormattingContexts.{FormattingContext}
use Rattle.lay_context.specs.declared.task.Phase.{Phase}
use Rattle.lay_shape.specs.declared.cell_key.CellKey.{CellKey}
use Rattle.lay_shape.specs.Dependencies.{in_phase}
use Rattle.lay_shape.specs.Keys.{AreOfOwnNodes, key_of}
use Rattle.lay_shape.specs.Touched.TouchedContexts.{IsTouched, IsUntouched, ListsTouched}
use Rattle.lay_shape.specs.Touched.TouchedKeys.{AreTouchedKeys}

abbrev pub OneListOfTouchedKeys : Type 0
OneListOfTouchedKeys = (contexts later : List Context) (all rest : List FormattingContext) (keys others : List CellKey)
    → AreTouchedKeys contexts later all rest keys → AreTouchedKeys contexts later all rest others → keys ≡ others

-- the keys of each touched context are listed
abbrev pub TouchedContextsAreListed : Type 0
TouchedContextsAreListed = (contexts later : List Context) (all rest : List FormattingContext) (keys : List CellKey)
    → AreTouchedKeys contexts later all rest keys → ListsTouched contexts later all rest keys

-- the context with the number j is touched, and this is the key of one of its cells
pub record IsTouchedKey (contexts later : List Context) (all rest : List FormattingContext) (key : CellKey) (j : ℕ) : Type 0 where
  pub within : j < length later
  pub touched : IsTouched contexts later all rest j
  pub is : key ≡ key_of later (in_phase key.phase j)

-- no others are
abbrev pub ListedKeysAreOfTouchedContexts : Type 0
ListedKeysAreOfTouchedContexts = (contexts later : List Context) (all rest : List FormattingContext) (keys : List CellKey) (key : CellKey)
    → AreTouchedKeys contexts later all rest keys → IsIn keys key → (j : ℕ) × IsTouchedKey contexts later all rest key j

-- each stands once
abbrev pub TouchedKeysStandOnce : Type 0
TouchedKeysStandOnce = (contexts later : List Context) (all rest : List FormattingContext) (keys : List CellKey) → AreOfOwnNodes later
    → AreTouchedKeys contexts later all rest keys → IsEachOnce keys

-- a context of which a key isn't listed was there before with the same boxes, and measured where it is
abbrev pub UnlistedContextsAreUntouched : Type 0
UnlistedContextsAreUntouched =
    (contexts later : List Context) (all rest : List FormattingContext) (keys : List CellKey) (j : ℕ) (phase : Phase)
    → AreTouchedKeys contexts later all rest keys → j < length later → (IsIn keys (key_of later (in_phase phase j)) → ⊥)
    → IsUntouched contexts later all rest j
