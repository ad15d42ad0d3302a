-- What stands beside the rows: an index from the keys to the places, for each dependency its place, and
-- the place of the first dirty cell. No public contract names them.
use Rattle.std.specs.Prelude.{◌≡◌, ◌<◌, ℕ, Bool, true, false, List, map, slice_get, slice_set, Some}
use Rattle.std.specs.BTreeMap.{BTreeMap, get}
use Rattle.std.specs.declared.cmp.Ordering.{Ordering}
use Rattle.lay_cells.specs.Shapes.{IsIn}
use Rattle.lay_cells.specs.Rows.{Row, Held, row_of}
use Rattle.lay_cells.specs.Sound.{IsSound}
use Rattle.lay_cells.specs.declared.cell.Cell.{Cell}

-- a cell's key, with its dependencies and the places that are kept of these
pub record Wire (K : Type 0) : Type 0 where
  pub key : K
  pub needs : List K
  pub places : List ℕ

abbrev pub wire_of : {K H : Type 0} → Cell K H → Wire K
wire_of c = record { key = c.key; needs = c.needs.items; places = c.places.items }

-- the index has just the places of the keys, and the places of dependencies are the index's
pub record IsWired {K : Type 0} (cmp : K → K → Ordering) (index : BTreeMap K ℕ) (wires : List (Wire K)) : Type 0 where
  pub found : (key : K) (place : ℕ) → get cmp index key ≡ Some place → (w : Wire K) × (slice_get wires place ≡ Some w) × (w.key ≡ key)
  pub there : (w : Wire K) (place : ℕ) → slice_get wires place ≡ Some w → get cmp index w.key ≡ Some place
  pub places : (w : Wire K) → IsIn wires w → map Some w.places ≡ map (get cmp index) w.needs

abbrev pub HasIndex : {K : Type 0} → (K → K → Ordering) → List (Wire K) → Type 0
HasIndex {K} cmp wires = (index : BTreeMap K ℕ) × IsWired cmp index wires

module _ {K I V : Type 0} where
  -- the bit of the row at a place
  abbrev pub HasBit : List (Row K I V) → ℕ → Bool → Type 0
  HasBit rows place b = (r : Row K I V) × (slice_get rows place ≡ Some r) × (r.dirty ≡ b)

  -- the rows before the place are clean, and the one at it, if there is one, is dirty
  pub record IsLowest (rows : List (Row K I V)) (place : ℕ) : Type 0 where
    pub before : (j : ℕ) → j < place → (r : Row K I V) → slice_get rows j ≡ Some r → r.dirty ≡ false
    pub at : (r : Row K I V) → slice_get rows place ≡ Some r → r.dirty ≡ true

  pub record IsKept (relates : I → V → Type 0) (cmp : K → K → Ordering) (cells : List (Cell K (Held K I V)))
      (index : BTreeMap K ℕ) (lowest draws : ℕ) : Type 0 where
    pub sound : IsSound relates record { rows = map row_of cells; draws = draws }
    pub wired : IsWired cmp index (map wire_of cells)
    pub first_dirty : IsLowest (map row_of cells) lowest

  -- the row at a place became another, as P says, and what stands beside the rows is as it was
  abbrev pub ChangesAt : List (Cell K (Held K I V)) → List (Cell K (Held K I V)) → ℕ → (Row K I V → Row K I V → Type 0) → Type 0
  ChangesAt old new place P =
      (r q : Row K I V) × (slice_get (map row_of old) place ≡ Some r) × P r q
      × (map row_of new ≡ slice_set (map row_of old) place q) × (map wire_of new ≡ map wire_of old)
