-- The preferred minimum width and the preferred width of a context (CSS 2.2, 10.3.5): those of the content of its own
-- box, by a recursion on its boxes. A block box has those of its lines, or those of its blocks. The boxes of inner
-- contexts have given ones, so nothing of another context is looked into, and neither is the room that there will be.
-- Where the wrapper of a table stands among other boxes, its widths are given too: they come of the table's columns.
use Rattle.std.specs.Prelude.{ℕ, ◌+◌, ◌==◌, List, [], ◌∷◌, ◌++◌, Option, Some, None, drop, slice_get, if◌then◌else◌}
use Rattle.lay_style.specs.declared.style.Style.{Style}
use Rattle.lay_box_tree.specs.Roles.{role_of}
use Rattle.lay_box_tree.specs.declared.box_tree.BoxKind.{BoxKind}
use Rattle.lay_box_tree.specs.declared.box_tree.BoxKind.TheVariants as kind
use Rattle.lay_box_tree.specs.declared.box_role.Role.{Role}
use Rattle.lay_box_tree.specs.declared.box_role.Role.TheVariants as role
use Rattle.lay_box_tree.specs.declared.box_tree.BoxNode.{BoxNode}
use Rattle.lay_line_items.specs.InlineSegments.{segments_in}
use Rattle.lay_measure.specs.Children.{Child, block_widths, child_as, holds_lines}
use Rattle.lay_measure.specs.LineParts.{contribution}
use Rattle.lay_measure.specs.LineWidths.{inline_widths}
use Rattle.lay_measure.specs.MeasureInValue.{MeasureInValue, inner_at, no_widths}
use Rattle.lay_measure.specs.ReplacedWidths.{replaced_width}
use Rattle.lay_measure.specs.declared.preferred_widths.PreferredWidths.{PreferredWidths}

-- the preferred widths of the lines of the box at k
abbrev pub lines_widths : MeasureInValue → ℕ → Option BoxNode → PreferredWidths
lines_widths m k None = no_widths
lines_widths m k (Some b) = inline_widths m b.style.text (segments_in m.face m.boxes k)

-- those of the content of the block box at k, which has these children
abbrev pub block_content_widths : MeasureInValue → ℕ → List Child → PreferredWidths
block_content_widths m k cs = if holds_lines cs then lines_widths m k (slice_get m.boxes k) else block_widths cs

-- those of the box at k that has this role: of its content in this context, or given ones
abbrev pub own_preferred_widths : MeasureInValue → ℕ → Role → List Child → PreferredWidths
own_preferred_widths m k role.Block cs = block_content_widths m k cs
own_preferred_widths m k _ cs = inner_at m k

-- the box at k as a child, which has these children itself
abbrev pub as_measured_child : MeasureInValue → ℕ → BoxNode → List Child → List Child
as_measured_child m k b cs = child_as (role_of b) (contribution b (own_preferred_widths m k (role_of b) cs))

-- the children of the box at p that stand from the place k on, where these boxes stand
abbrev pub children : MeasureInValue → ℕ → ℕ → List BoxNode → List Child
children m p k [] = []
children m p k (b ∷ bs) =
    if b.parent == p then as_measured_child m k b (children m k (k + 1) bs) ++ children m p (k + 1) bs
    else children m p (k + 1) bs

-- those of a context whose own box is this one: a replaced element has the width of the replaced rules
abbrev pub preferred_as : MeasureInValue → BoxKind → Style → PreferredWidths
preferred_as m (kind.Replaced w h inline) s =
    record { minimum = record { 0 = replaced_width w h s }; preferred = record { 0 = replaced_width w h s } }
preferred_as m _ s = block_content_widths m 0 (children m 0 1 (drop 1 m.boxes))

abbrev pub preferred_in : MeasureInValue → Option BoxNode → PreferredWidths
preferred_in m None = no_widths
preferred_in m (Some b) = preferred_as m b.kind b.style

-- the preferred widths of the context with these boxes
abbrev pub preferred_of : MeasureInValue → PreferredWidths
preferred_of m = preferred_in m (slice_get m.boxes 0)
