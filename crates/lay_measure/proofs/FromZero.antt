-- Preferred widths are from 0 on.
use Rattle.std.proofs.Common.{◌≤ℤ◌, ℕ, ℤ, pos, Bool, true, false, List, [], ◌∷◌, drop, slice_get, if◌then◌else◌, Option, Some, None, arith}
use Rattle.std.proofs.lemmas.Int.{ints, clamps}
use Rattle.lay_units.specs.Units.{clamp_size_of}
use Rattle.lay_units.specs.declared.length.Unit.{Unit as Length}
use Rattle.lay_style.specs.declared.style.Style.{Style}
use Rattle.lay_style.specs.declared.style.TextStyle.{TextStyle}
use Rattle.lay_space.specs.declared.segment.Segment.{Segment}
use Rattle.lay_box_tree.specs.declared.box_tree.BoxKind.{BoxKind}
use Rattle.lay_box_tree.specs.declared.box_tree.BoxKind.TheVariants as kind
use Rattle.lay_box_tree.specs.declared.box_tree.BoxNode.{BoxNode}
use Rattle.lay_widths.specs.ReplacedSizes.{sizes_for}
use Rattle.lay_widths.specs.declared.replaced.ReplacedIn.{ReplacedIn}
use Rattle.lay_line_items.specs.InlineSegments.{segments_in}
use Rattle.lay_measure.specs.Children.{Child, block, block_widths, float, greatest_after, greatest_minimum, holds_lines, inline}
use Rattle.lay_measure.specs.Laws.{AreFromZero, PreferredWidthsAreFromZero}
use Rattle.lay_measure.specs.LineParts.{line_parts}
use Rattle.lay_measure.specs.LineWidths.{first_start, inline_widths, lines_of, tab_of}
use Rattle.lay_measure.specs.MeasureInValue.{MeasureInValue, no_widths}
use Rattle.lay_measure.specs.PreferredWidths.{block_content_widths, children, lines_widths, preferred_as, preferred_in}
use Rattle.lay_measure.specs.ReplacedWidths.{replaced_of_natural_size, replaced_width}
use Rattle.lay_measure.specs.declared.pen.Breaking.TheVariants as breaking
use Rattle.lay_measure.proofs.WidestLines.{from_zero}

-- of blocks and floats
minimum_up : (cs : List Child) → pos 0 ≤ℤ greatest_minimum cs
minimum_up [] = omega (arith, ints)
minimum_up (block w ∷ cs) = let h = minimum_up cs in omega (arith, ints, clamps, h)
minimum_up (float w ∷ cs) = let h = minimum_up cs in omega (arith, ints, clamps, h)
minimum_up (inline ∷ cs) = minimum_up cs

after_up : (cs : List Child) → pos 0 ≤ℤ greatest_after cs
after_up [] = omega (arith, ints)
after_up (block w ∷ cs) = let h = after_up cs in omega (arith, ints, clamps, h)
after_up (float w ∷ cs) = after_up cs
after_up (inline ∷ cs) = let h = after_up cs in omega (arith, ints, clamps, h)

blocks_from_zero : (cs : List Child) → AreFromZero (block_widths cs)
blocks_from_zero cs = let h = after_up cs in record { minimum = minimum_up cs; preferred = omega (arith, ints, clamps, h) }

-- of nothing, and of lines
none_from_zero : AreFromZero no_widths
none_from_zero = record { minimum = omega (arith, ints); preferred = omega (arith, ints) }

inline_from_zero : (m : MeasureInValue) (s : TextStyle) (ss : List Segment) → AreFromZero (inline_widths m s ss)
inline_from_zero m s ss =
    let xs = line_parts m ss in record {
      minimum = from_zero breaking.WhereAllowed (tab_of m.face s) (first_start s xs) (lines_of breaking.WhereAllowed [] xs);
      preferred = from_zero breaking.WhereForced (tab_of m.face s) (first_start s xs) (lines_of breaking.WhereForced [] xs);
    }

lines_from_zero : (m : MeasureInValue) (k : ℕ) (o : Option BoxNode) → AreFromZero (lines_widths m k o)
lines_from_zero m k None = none_from_zero
lines_from_zero m k (Some b) = inline_from_zero m b.style.text (segments_in m.face m.boxes k)

content_from_zero : (m : MeasureInValue) (k : ℕ) (cs : List Child) → AreFromZero (block_content_widths m k cs)
content_from_zero m k cs = by (holds_lines cs)
  where
    by : (lines : Bool) → AreFromZero (if lines then lines_widths m k (slice_get m.boxes k) else block_widths cs)
    by true = lines_from_zero m k (slice_get m.boxes k)
    by false = blocks_from_zero cs

-- of a replaced element
size_from_zero : (v : ℤ) → pos 0 ≤ℤ clamp_size_of v
size_from_zero v = omega (arith, ints, clamps)

replaced_from_zero : (w h : Length) (s : Style) → pos 0 ≤ℤ replaced_width w h s
replaced_from_zero w h s =
    let r : ReplacedIn = replaced_of_natural_size w h s in
    size_from_zero (sizes_for r r.width r.height).width

own_from_zero : (m : MeasureInValue) (k : BoxKind) (s : Style) → AreFromZero (preferred_as m k s)
own_from_zero m (kind.Replaced w h is_inline) s = record { minimum = replaced_from_zero w h s; preferred = replaced_from_zero w h s }
own_from_zero m _ s = content_from_zero m 0 (children m 0 1 (drop 1 m.boxes))

pub widths_from_zero : PreferredWidthsAreFromZero
widths_from_zero m = by (slice_get m.boxes 0)
  where
    by : (o : Option BoxNode) → AreFromZero (preferred_in m o)
    by None = none_from_zero
    by (Some b) = own_from_zero m b.kind b.style
