-- The preferred widths of a box by what its children take. A block is as wide as the widest (CSS 2.2, 10.3.5). Floats
-- that stand next to each other take the sum of their preferred widths, since they stand beside each other where
-- there is room (9.5); by their preferred minimum widths they stand below each other. What has no place in the flow,
-- and white space, doesn't part them.
use Rattle.std.specs.Prelude.{ℤ, pos, ◌+ℤ◌, Bool, true, false, List, [], ◌∷◌}
use Rattle.std.specs.List.{list_any}
use Rattle.std.specs.Int.{int_max}
use Rattle.lay_box_tree.specs.declared.box_role.Role.{Role}
use Rattle.lay_box_tree.specs.declared.box_role.Role.TheVariants as role
use Rattle.lay_measure.specs.declared.preferred_widths.PreferredWidths.{PreferredWidths}

-- a child: in flow and block-level, or floating, with what it takes; or inline-level
pub data Child : Type 0 where
  block : PreferredWidths → Child
  float : PreferredWidths → Child
  inline : Child

-- a box with this role, which takes so much. The parts of a table count in the table.
abbrev pub child_as : Role → PreferredWidths → List Child
child_as role.Block w = block w ∷ []
child_as role.Solid w = block w ∷ []
child_as role.LeftFloat w = float w ∷ []
child_as role.RightFloat w = float w ∷ []
child_as role.Inline w = inline ∷ []
child_as role.Text w = inline ∷ []
child_as role.Atomic w = inline ∷ []
child_as role.Anchor w = []
child_as role.Own w = []
child_as role.TablePart w = []

abbrev pub is_inline_level : Child → Bool
is_inline_level (block w) = false
is_inline_level (float w) = false
is_inline_level inline = true

-- 9.2.1: a block container "contains only block-level boxes or establishes an inline formatting context"
abbrev pub holds_lines : List Child → Bool
holds_lines cs = list_any is_inline_level cs

-- the greatest preferred minimum width of a child, and at least 0
abbrev pub greatest_minimum : List Child → ℤ
greatest_minimum [] = pos 0
greatest_minimum (block w ∷ cs) = int_max w.minimum.0 (greatest_minimum cs)
greatest_minimum (float w ∷ cs) = int_max w.minimum.0 (greatest_minimum cs)
greatest_minimum (inline ∷ cs) = greatest_minimum cs

-- how wide the floats are together that come before all other children
abbrev pub floats_first : List Child → ℤ
floats_first [] = pos 0
floats_first (block w ∷ cs) = pos 0
floats_first (float w ∷ cs) = w.preferred.0 +ℤ floats_first cs
floats_first (inline ∷ cs) = pos 0

-- The greatest preferred width of what comes after these: of a child, or of floats next to each other.
abbrev pub greatest_after : List Child → ℤ
greatest_after [] = pos 0
greatest_after (block w ∷ cs) = int_max w.preferred.0 (int_max (floats_first cs) (greatest_after cs))
greatest_after (float w ∷ cs) = greatest_after cs
greatest_after (inline ∷ cs) = int_max (floats_first cs) (greatest_after cs)

-- the greatest preferred width of all
abbrev pub greatest_preferred : List Child → ℤ
greatest_preferred cs = int_max (floats_first cs) (greatest_after cs)

abbrev pub block_widths : List Child → PreferredWidths
block_widths cs = record { minimum = record { 0 = greatest_minimum cs }; preferred = record { 0 = greatest_preferred cs } }
