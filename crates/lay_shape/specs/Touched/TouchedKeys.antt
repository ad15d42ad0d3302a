-- The keys of the cells that an edit changes by itself: those of the contexts that it touches, three for each, in the order of these.
use Rattle.std.specs.Prelude.{ℕ, ◌≡◌, ◌<◌, ◌⊎◌, List, [], ◌∷◌, length, slice_index}
use Rattle.std.specs.List.{flat_map}
use Rattle.lay_cells.specs.Shapes.{IsIn}
use Rattle.lay_contexts.specs.Contexts.{Context}
use Rattle.lay_contexts.specs.FormattingContexts.{FormattingContext}
use Rattle.lay_context.specs.declared.task.Phase.TheVariants.{Measure, Size, Place}
use Rattle.lay_shape.specs.declared.cell_key.CellKey.{CellKey}
use Rattle.lay_shape.specs.Dependencies.{in_phase}
use Rattle.lay_shape.specs.Keys.{key_of}
use Rattle.lay_shape.specs.Touched.TouchedContexts.{IsTouched, IsUntouched}

-- these are the numbers of the touched ones among the first n contexts
pub record AreTouchedTo (contexts later : List Context) (all rest : List FormattingContext) (numbers : List ℕ) (n : ℕ) : Type 0 where
  pub rising : (i j : ℕ) → i < j → j < length numbers → slice_index numbers i < slice_index numbers j
  pub within : (j : ℕ) → IsIn numbers j → j < n
  pub touched : (j : ℕ) → IsIn numbers j → IsTouched contexts later all rest j
  pub others : (j : ℕ) → j < n → IsIn numbers j ⊎ IsUntouched contexts later all rest j

-- the keys of the cells of the context with the number j
abbrev pub keys_of : List Context → ℕ → List CellKey
keys_of contexts j = key_of contexts (in_phase Measure j) ∷ key_of contexts (in_phase Size j) ∷ key_of contexts (in_phase Place j) ∷ []

-- these are the keys of the touched ones among the first n contexts
pub record AreTouchedKeysTo (contexts later : List Context) (all rest : List FormattingContext) (keys : List CellKey) (n : ℕ) : Type 0 where
  pub numbers : List ℕ
  pub are : AreTouchedTo contexts later all rest numbers n
  pub keys_are : keys ≡ flat_map (keys_of later) numbers

abbrev pub AreTouchedKeys : (contexts later : List Context) (all rest : List FormattingContext) → List CellKey → Type 0
AreTouchedKeys contexts later all rest keys = AreTouchedKeysTo contexts later all rest keys (length later)
