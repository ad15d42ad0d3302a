-- The cells of a document while their shape is put together.
use Rattle.std.specs.Prelude.{ℕ, ◌≡◌, ◌+◌, ◌<◌, ◌==◌, ◌&&◌, nat_lt, Bool, List, [], length, map, take, slice_index_or, is_none}
use Rattle.std.specs.List.{filter, range_with_len}
use Rattle.lay_cells.specs.Shapes.{Entry}
use Rattle.lay_contexts.specs.Contexts.{Context, boxes_in}
use Rattle.lay_positioned.specs.Holders.{holder_for}
use Rattle.lay_shape.specs.declared.cell_key.CellKey.{CellKey}
use Rattle.lay_shape.specs.Levels.{level_of}
use Rattle.lay_shape.specs.Shapes.{cells_of, entry_of}
use Rattle.lay_shape.specs.Ways.{is_absolute}

-- these are the levels of all contexts
abbrev pub levels_of : List Context → List ℕ
levels_of contexts = map (level_of contexts) (range_with_len 0 (length contexts))

-- of each level the contexts before n that have it
pub record AreByLevel (contexts : List Context) (lists : List (List ℕ)) (n : ℕ) : Type 0 where
  pub count : length lists ≡ length contexts + 1
  pub each : (level : ℕ) → level < length contexts + 1
      → slice_index_or lists level [] ≡ filter (λ i. level_of contexts i == level) (range_with_len 0 n)

-- the entries of the first n cells
abbrev pub entries_to : List Context → ℕ → List (Entry CellKey)
entries_to contexts n = map (entry_of contexts) (take n (cells_of contexts))

-- the context with the number i is absolutely positioned, and another one is around it
abbrev pub is_inner_absolute : List Context → ℕ → Bool
is_inner_absolute contexts i = nat_lt 0 i && is_absolute contexts i

-- another context is around it, and no holder among its boxes is around the box at k
abbrev pub leads_on : (is_fixed : Bool) → List Context → (i k : ℕ) → Bool
leads_on is_fixed contexts i k = nat_lt 0 i && is_none (holder_for is_fixed (boxes_in contexts i) k)
