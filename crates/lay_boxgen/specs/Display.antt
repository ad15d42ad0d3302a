-- The used value of `display` (9.7, 9.2.4 and 17.2), and the form of box that it gives.
use Rattle.std.specs.Prelude.{ℕ, Bool, true, false, ◌||◌, not, Option, None, Some, if◌then◌else◌}
use Rattle.lay_style.specs.declared.style_words.Display.{Display}
use Rattle.lay_style.specs.declared.style_words.Display.TheVariants as display
use Rattle.lay_style.specs.declared.style_words.Position.{Position}
use Rattle.lay_style.specs.declared.style_words.Position.TheVariants as position
use Rattle.lay_style.specs.declared.style_words.Float.{Float}
use Rattle.lay_style.specs.declared.style_words.Float.TheVariants as float
use Rattle.lay_style.specs.declared.style.Style.{Style}
use Rattle.lay_doc.specs.declared.node.Kind.{Kind}
use Rattle.lay_doc.specs.declared.node.Kind.TheVariants as kind
use Rattle.lay_box_tree.specs.declared.box_tree.Flow.{Flow}
use Rattle.lay_box_tree.specs.declared.box_tree.Flow.TheVariants.{InFlow, Floating, Absolute}
use Rattle.lay_boxgen.specs.declared.facts.Form.{Form}
use Rattle.lay_boxgen.specs.declared.facts.Form.TheVariants as form
use Rattle.lay_boxgen.specs.Forms.{is_in_flow}

abbrev pub is_out_of_flow_position : Position → Bool
is_out_of_flow_position position.Absolute = true
is_out_of_flow_position position.Fixed = true
is_out_of_flow_position _ = false

abbrev pub is_floated : Float → Bool
is_floated float.None = false
is_floated _ = true

-- 9.7: where `position` is absolute or fixed, `float` counts as `none`
abbrev pub flow_of : Style → Flow
flow_of s =
    if is_out_of_flow_position s.position then Absolute
    else (if is_floated s.float then Floating else InFlow)

-- the table of 9.7, by which `display` changes
abbrev pub as_block : Display → Display
as_block display.InlineTable = display.Table
as_block display.Inline = display.Block
as_block display.InlineBlock = display.Block
as_block display.TableRowGroup = display.Block
as_block display.TableColumn = display.Block
as_block display.TableColumnGroup = display.Block
as_block display.TableHeaderGroup = display.Block
as_block display.TableFooterGroup = display.Block
as_block display.TableRow = display.Block
as_block display.TableCell = display.Block
as_block display.TableCaption = display.Block
as_block d = d

-- it changes so for what is absolute or fixed, for floats and for the root
abbrev pub used_display : Bool → Flow → Display → Display
used_display is_root f d = if is_root || not (is_in_flow f) then as_block d else d

-- A replaced element is no table box: as such it is read as a block or an inline one, before 9.7.
abbrev pub replaced_display : Display → Display
replaced_display display.Table = display.Block
replaced_display display.InlineTable = display.Inline
replaced_display display.InlineBlock = display.Inline
replaced_display display.TableRowGroup = display.Inline
replaced_display display.TableColumn = display.Inline
replaced_display display.TableColumnGroup = display.Inline
replaced_display display.TableHeaderGroup = display.Inline
replaced_display display.TableFooterGroup = display.Inline
replaced_display display.TableRow = display.Inline
replaced_display display.TableCell = display.Inline
replaced_display display.TableCaption = display.Inline
replaced_display d = d

-- The used display of a node: a text is an anonymous inline box (9.2.2.1).
abbrev pub used_display_of : Bool → Kind → Style → Display
used_display_of is_root (kind.Element colspan rowspan) s = used_display is_root (flow_of s) s.display
used_display_of is_root kind.Text s = display.Inline
used_display_of is_root (kind.Replaced w h) s = used_display is_root (flow_of s) (replaced_display s.display)

-- the box of an element of this used display with these spans; `none` gives none. There are no markers, so
-- `list-item` is `block`.
abbrev pub element_form : ℕ → ℕ → Display → Option Form
element_form colspan rowspan display.Inline = Some form.Inline
element_form colspan rowspan display.Block = Some form.Block
element_form colspan rowspan display.ListItem = Some form.Block
element_form colspan rowspan display.InlineBlock = Some form.InlineBlock
element_form colspan rowspan display.Table = Some form.Wrapper
element_form colspan rowspan display.InlineTable = Some form.InlineWrapper
element_form colspan rowspan display.TableRowGroup = Some form.RowGroup
element_form colspan rowspan display.TableHeaderGroup = Some form.HeaderGroup
element_form colspan rowspan display.TableFooterGroup = Some form.FooterGroup
element_form colspan rowspan display.TableRow = Some form.Row
element_form colspan rowspan display.TableColumnGroup = Some (form.ColumnGroup colspan)
element_form colspan rowspan display.TableColumn = Some (form.Column colspan)
element_form colspan rowspan display.TableCell = Some (form.Cell colspan rowspan)
element_form colspan rowspan display.TableCaption = Some form.Caption
element_form colspan rowspan display.None = None

abbrev pub is_inline_display : Display → Bool
is_inline_display display.Inline = true
is_inline_display _ = false

abbrev pub is_display_none : Display → Bool
is_display_none display.None = true
is_display_none _ = false
