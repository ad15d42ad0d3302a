-- Lines as preferred widths see them (CSS 2.2, 10.3.5): beside no float, of boxes that are as wide as preferred widths count them.
use Rattle.std.specs.Prelude.{ℕ, suc, ⊤, ◌≡◌, ◌<◌, ◌⊎◌, ℤ, pos, ◌≤ℤ◌, Bool, IsTrue, IsFalse}
use Rattle.std.specs.Prelude.{List, [], ◌∷◌, All, length, take, drop, slice_get, Some}
use Rattle.lay_units.specs.declared.length.Unit.{Unit as Length}
use Rattle.lay_floats.specs.declared.placed.Placed.{Placed}
use Rattle.lay_floats.specs.SolidPlace.{IsAlone}
use Rattle.lay_box_tree.specs.declared.box_tree.BoxNode.{BoxNode}
use Rattle.lay_space.specs.declared.item.Item.{Item}
use Rattle.lay_space.specs.declared.item.Item.TheVariants as item
use Rattle.lay_space.specs.declared.segment.Segment.{Segment}
use Rattle.lay_lines.specs.declared.content.content.Part.{Part}
use Rattle.lay_lines.specs.declared.content.content.Part.TheVariants as line
use Rattle.lay_lines.specs.declared.content.content.Stretch.{Stretch}
use Rattle.lay_lines.specs.declared.content.pen.Pen.{Pen as LinePen}
use Rattle.lay_lines.specs.Content.Extents.{height_of}
use Rattle.lay_lines.specs.Content.LineContents.{LineContentValue}
use Rattle.lay_lines.specs.declared.row.Ended.{Ended}
use Rattle.lay_lines.specs.Lines.{AreLines, LinesValue}
use Rattle.lay_line_measures.specs.declared.container.Container.{Container}
use Rattle.lay_line_measures.specs.AtomicBoxes.{atomic_at}
use Rattle.lay_line_measures.specs.BoxMeasuresValue.{BoxMeasuresValue}
use Rattle.lay_line_measures.specs.Contents.{content_in, used_indent}
use Rattle.lay_line_measures.specs.InlineBoxes.{start_at, end_at}
use Rattle.lay_line_measures.specs.SeenLines.{has_seen_line}
use Rattle.lay_measure.specs.declared.line_parts.LinePart.{LinePart}
use Rattle.lay_measure.specs.declared.line_parts.LinePart.TheVariants as part
use Rattle.lay_measure.specs.declared.pen.Breaking.{Breaking}
use Rattle.lay_measure.specs.declared.pen.Pen.{Pen}
use Rattle.lay_measure.specs.LineParts.{contribution_at, end_in, start_in}
use Rattle.lay_measure.specs.LineWidths.{indent_length, width_for}
use Rattle.lay_measure.specs.MeasureInValue.{MeasureInValue}

-- what preferred widths keep of a line's pen
abbrev pub measuring_pen : LinePen → Pen
measuring_pen p = record { at = p.at; visible = p.visible; started = p.started }

-- edges of this width, which make their line seen where they do so in lines
abbrev pub AreEdgesAlone : LinePart → Length → Bool → Type 0
AreEdgesAlone x width seen = (b : Bool) × (x ≡ part.Edge width b) × (IsTrue seen → IsTrue b)

-- An inline box of lines has the edges that preferred widths count, as it has where none of its margins and paddings is a
-- percentage (law `inline_edges_are_as_measured`). And an atomic box takes its preferred width, or its preferred minimum width, as
-- preferred widths count it. In its preferred width it does so where there is room for it and no percentage is in the way (law
-- `shrinking_boxes_take_what_is_measured`).
abbrev pub IsAsMeasured : Breaking → BoxMeasuresValue → MeasureInValue → Item → Type 0
IsAsMeasured how m by (item.Text k text mode widths) = ⊤
IsAsMeasured how m by (item.Start k takes) = AreEdgesAlone (start_in by k (slice_get by.boxes k)) (start_at m k).width (start_at m k).seen
IsAsMeasured how m by (item.End k) = AreEdgesAlone (end_in by k (slice_get by.boxes k)) (end_at m k).width (end_at m k).seen
IsAsMeasured how m by (item.Atomic k mode) = width_for how (contribution_at by k) ≡ (atomic_at m k).width
IsAsMeasured how m by (item.Float k) = ⊤
IsAsMeasured how m by (item.Anchor k) = ⊤

abbrev pub AreAsMeasured : Breaking → BoxMeasuresValue → MeasureInValue → List Segment → Type 0
AreAsMeasured how m by segments = All (λ (s : Segment). All (IsAsMeasured how m by) s.items) segments

abbrev pub IsNoFloat : Item → Type 0
IsNoFloat (item.Text k text mode widths) = ⊤
IsNoFloat (item.Start k takes) = ⊤
IsNoFloat (item.End k) = ⊤
IsNoFloat (item.Atomic k mode) = ⊤
IsNoFloat (item.Float k) = ⊥
IsNoFloat (item.Anchor k) = ⊤

abbrev pub HaveNoFloats : List Segment → Type 0
HaveNoFloats segments = All (λ (s : Segment). All IsNoFloat s.items) segments

-- how far a part takes the end of content isn't negative. A tab goes on to a stop.
abbrev pub IsNotNegative : Part → Type 0
IsNotNegative (line.Space w) = pos 0 ≤ℤ w.width.0
IsNotNegative (line.PreservedSpace w) = pos 0 ≤ℤ w.width.0
IsNotNegative (line.Tab t) = ⊤
IsNotNegative line.Linefeed = ⊤
IsNotNegative (line.Text w) = pos 0 ≤ℤ w.width.0
IsNotNegative (line.Start b) = pos 0 ≤ℤ b.width.0
IsNotNegative (line.End b) = pos 0 ≤ℤ b.width.0
IsNotNegative (line.Atomic a) = pos 0 ≤ℤ a.width.0

abbrev pub NoneIsNegative : List Stretch → Type 0
NoneIsNegative ss = All (λ (s : Stretch). All IsNotNegative s.parts) ss

-- no float is beside a line
abbrev pub AreBesideNone : List Placed → LineContentValue → List Ended → Type 0
AreBesideNone floats c rows = All (λ (r : Ended). IsAlone floats r.top.0 (height_of c.strut)) rows

-- These lines are those of a container of the style of the box b, with these segments between these edges. No float is in them or
-- beside them, and they are as preferred widths count them: the `text-indent` isn't a percentage, or one that comes to 0, and
-- the first segment is seen where there is an indent, since a line that isn't seen isn't there (9.4.2).
pub record AreAlone
    (how : Breaking) (m : BoxMeasuresValue) (by : MeasureInValue) (c : Container) (b : BoxNode)
    (segments : List Segment) (left right : Length)
    (top : ℤ) (floats : List Placed) (v : LinesValue) : Type 0 where
  pub box : slice_get m.boxes c.place ≡ Some b
  pub face : m.face ≡ by.face
  pub widths : AreAsMeasured how m by segments
  pub indent : used_indent c.containing b.style.text.text_indent ≡ indent_length b.style.text.text_indent
  pub seen : (indent_length b.style.text.text_indent).0 ≡ pos 0 ⊎ IsTrue (has_seen_line (take 1 (content_in m c segments).stretches))
  pub no_floats : HaveNoFloats segments
  pub beside : AreBesideNone floats (content_in m c segments) v.rows
  pub lines : AreLines (content_in m c segments) left right top floats v

-- A line can take no more than the first n: nothing is left then, or the last of them has to end its line.
abbrev pub HasToEnd : List Stretch → ℕ → Type 0
HasToEnd ss n = (n ≡ length ss) ⊎ ((k : ℕ) × (s : Stretch) × (n ≡ suc k) × (slice_get ss k ≡ Some s) × IsTrue s.forced)

-- the first n, up to the first place where a line has to end
pub record IsForcedLine (ss : List Stretch) (n : ℕ) : Type 0 where
  pub ends : HasToEnd ss n
  pub before : (k : ℕ) (s : Stretch) → suc k < n → slice_get ss k ≡ Some s → IsFalse s.forced

-- each of these lines takes just so much of the content that is left, and nothing is left in the end
abbrev pub BreakWhereForced : List Stretch → List Ended → Type 0
BreakWhereForced ss [] = ss ≡ []
BreakWhereForced ss (r ∷ rows) = IsForcedLine ss r.reach.count × BreakWhereForced (drop r.reach.count ss) rows
