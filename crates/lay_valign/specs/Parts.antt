-- The parts of a line: its inline boxes, texts and atomic boxes (CSS 2.2, 10.8.1). The first is the
-- strut; each other has a parent that stands before it. Lists are read past their ends as zeros.
use Rattle.std.specs.Prelude.{ℕ, ◌<◌, ℤ, pos, List, length, slice_index_or, Bool, true, false}
use Rattle.lay_units.specs.declared.length.Unit.{Unit}
use Rattle.lay_units.specs.Lengths.{no_length}
use Rattle.lay_valign.specs.declared.parts.Shift.{Shift}
use Rattle.lay_valign.specs.declared.parts.Shift.TheVariants.{By, Top, Bottom}
use Rattle.lay_valign.specs.declared.parts.LineEdge.{LineEdge}
use Rattle.lay_valign.specs.declared.parts.LineEdge.TheVariants.{TopEdge, BottomEdge}
use Rattle.lay_valign.specs.declared.parts.Part.{Part}

abbrev pub no_line_part : Part
no_line_part = record { above = no_length; below = no_length; shift = By no_length; parent = 0 }

abbrev pub part_at : List Part → ℕ → Part
part_at parts k = slice_index_or parts k no_line_part

abbrev pub at : List ℤ → ℕ → ℤ
at numbers k = slice_index_or numbers k (pos 0)

abbrev pub shift_at : List Unit → ℕ → ℤ
shift_at shifts k = (slice_index_or shifts k no_length).0

pub record AreParts (parts : List Part) : Type 0 where
  pub strut : 0 < length parts
  pub before : (k : ℕ) → 0 < k → k < length parts → (part_at parts k).parent < k

-- a part with this shift is aligned with this edge of the line box
abbrev pub is_aligned : LineEdge → Shift → Bool
is_aligned TopEdge Top = true
is_aligned BottomEdge Bottom = true
is_aligned _ _ = false

-- its alignment doesn't depend on its parent's baseline: it begins an aligned subtree
abbrev pub begins : Shift → Bool
begins Top = true
begins Bottom = true
begins _ = false
