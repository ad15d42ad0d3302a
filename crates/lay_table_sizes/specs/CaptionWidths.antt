-- How narrow the captions of a table can be (CSS 2.2, 17.5.2.2): the greatest of what they take at least of the room in the wrapper,
-- with their margins, borders and paddings (10.3.5, 8.1), and at least 0.
use Rattle.std.specs.Prelude.{ℕ, ◌+◌, ℤ, pos, List, [], ◌∷◌, if◌then◌else◌}
use Rattle.std.specs.Int.{int_max}
use Rattle.lay_box_tree.specs.declared.box_tree.BoxKind.TheVariants as kind
use Rattle.lay_box_tree.specs.declared.box_tree.BoxNode.{BoxNode}
use Rattle.lay_box_tree.specs.Kinds.{is_caption_kind}
use Rattle.lay_measure.specs.LineParts.{contribution}
use Rattle.lay_measure.specs.declared.preferred_widths.PreferredWidths.{PreferredWidths}
use Rattle.lay_table_sizes.specs.PreferredWidths.{widths_at}

-- the greatest of captions that take so much together with a box whose content has these preferred widths
abbrev pub with_box : BoxNode → PreferredWidths → ℤ → ℤ
with_box b own least = if is_caption_kind b.kind then int_max (contribution b own).minimum.0 least else least

-- that of the captions among these boxes, of which the first stands at k
abbrev pub captions_from : List PreferredWidths → ℕ → List BoxNode → ℤ
captions_from inner k [] = pos 0
captions_from inner k (b ∷ bs) = with_box b (widths_at inner k) (captions_from inner (k + 1) bs)

abbrev pub captions_minimum : List PreferredWidths → List BoxNode → ℤ
captions_minimum inner boxes = captions_from inner 0 boxes
