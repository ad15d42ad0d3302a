-- Which cell covers each slot, row by row: its number, or None. A row's list ends where no cell follows.
use Rattle.std.specs.Prelude.{ℕ, ◌≡◌, ◌+◌, ◌<◌, ◌&&◌, nat_le, nat_lt, Bool}
use Rattle.std.specs.Prelude.{Option, Some, None, List, [], ◌∷◌, length, drop, slice_index_or, if◌then◌else◌}
use Rattle.lay_table_grid.specs.declared.placed.PlacedCell.{PlacedCell}
use Rattle.lay_table_grid.specs.MeetingBorders.{covers}

abbrev pub entry_at : List (Option ℕ) → ℕ → Option ℕ
entry_at row c = slice_index_or row c None

abbrev pub row_at : List (List (Option ℕ)) → ℕ → List (Option ℕ)
row_at slots r = slice_index_or slots r []

abbrev pub slot_at : List (List (Option ℕ)) → ℕ → ℕ → Option ℕ
slot_at slots r c = entry_at (row_at slots r) c

-- the first of the two that is there
abbrev pub first_present : Option ℕ → Option ℕ → Option ℕ
first_present None other = other
first_present (Some k) other = Some k

abbrev pub only_if : Bool → ℕ → Option ℕ
only_if b k = if b then Some k else None

-- the number of the first of the cells that covers a slot, where the first of all has the number k
abbrev pub covering_from : ℕ → List PlacedCell → ℕ → ℕ → Option ℕ
covering_from k [] r c = None
covering_from k (placed ∷ cells) r c = first_present (only_if (covers placed r c) k) (covering_from (k + 1) cells r c)

-- these are the numbers but for those of the cells from k on
pub record SlotsTo (cells : List PlacedCell) (rows k : ℕ) (slots : List (List (Option ℕ))) : Type 0 where
  pub as_many : length slots ≡ rows
  pub each : (r c : ℕ) → r < rows → first_present (slot_at slots r c) (covering_from k (drop k cells) r c) ≡ covering_from 0 cells r c

pub record AreSlots (cells : List PlacedCell) (rows : ℕ) (slots : List (List (Option ℕ))) : Type 0 where
  pub as_many : length slots ≡ rows
  pub each : (r c : ℕ) → r < rows → slot_at slots r c ≡ covering_from 0 cells r c

-- a cell is noted in each slot that it covers and that has no earlier one
pub record Covered (k : ℕ) (placed : PlacedCell) (before after : List (List (Option ℕ))) : Type 0 where
  pub as_many : length after ≡ length before
  pub each : (r c : ℕ) → r < length before → slot_at after r c ≡ first_present (slot_at before r c) (only_if (covers placed r c) k)

-- the same in a row, where it covers so many columns from `left` on
abbrev pub CoveredRow : (k left columns : ℕ) → List (Option ℕ) → List (Option ℕ) → Type 0
CoveredRow k left columns before after = (c : ℕ)
    → entry_at after c ≡ first_present (entry_at before c) (only_if (nat_le left c && nat_lt c (left + columns)) k)

-- and in a slot
abbrev pub CoveredSlot : (k at : ℕ) → List (Option ℕ) → List (Option ℕ) → Type 0
CoveredSlot k at before after = (c : ℕ)
    → entry_at after c ≡ first_present (entry_at before c) (only_if (nat_le at c && nat_lt c (at + 1)) k)
