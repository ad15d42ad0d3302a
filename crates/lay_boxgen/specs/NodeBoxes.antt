-- The box that a node of a document generates by itself (9.2), and which elements are contexts (9.4.1).
use Rattle.std.specs.Prelude.{ℕ, Bool, true, false, ◌||◌, not, ◌==◌, List, [], ◌∷◌, Option, None, Some, option_map, if◌then◌else◌}
use Rattle.lay_style.specs.declared.style.Style.{Style}
use Rattle.lay_style.specs.declared.style_words.Display.{Display}
use Rattle.lay_style.specs.declared.style_words.Overflow.{Overflow}
use Rattle.lay_style.specs.declared.style_words.Overflow.TheVariants.{Visible}
use Rattle.lay_doc.specs.declared.node.Kind.{Kind}
use Rattle.lay_doc.specs.declared.node.Kind.TheVariants as kind
use Rattle.lay_doc.specs.declared.node.Node.{Node}
use Rattle.lay_units.specs.declared.length.Unit.{Unit as Length}
use Rattle.lay_boxgen.specs.declared.facts.Facts.{Facts}
use Rattle.lay_box_tree.specs.declared.box_tree.Flow.{Flow}
use Rattle.lay_box_tree.specs.declared.box_tree.Flow.TheVariants.{InFlow}
use Rattle.lay_boxgen.specs.declared.facts.Form.{Form}
use Rattle.lay_boxgen.specs.declared.facts.Form.TheVariants.{Block, InlineBlock, Text, Replaced}
use Rattle.lay_boxgen.specs.declared.facts.Form.TheVariants.{Wrapper, InlineWrapper, Caption, Cell}
use Rattle.lay_boxgen.specs.Display.{flow_of, used_display_of, element_form, is_inline_display, is_display_none}
use Rattle.lay_boxgen.specs.Forms.{is_in_flow}
use Rattle.lay_boxgen.specs.WhiteSpace.{text_form}

-- the box of a replaced element of this used display
abbrev pub replaced_form : Length → Length → Display → Option Form
replaced_form w h d = if is_display_none d then None else Some (Replaced w h (is_inline_display d))

-- a text without characters generates no box
abbrev pub form_of_text : Style → List ℕ → Option Form
form_of_text s [] = None
form_of_text s (b ∷ bs) = Some (Text (text_form s.text.white_space (b ∷ bs)))

-- the form of a node's box, if it generates one
abbrev pub form_of : Bool → Kind → List ℕ → Style → Option Form
form_of is_root (kind.Element colspan rowspan) text s =
    element_form colspan rowspan (used_display_of is_root (kind.Element colspan rowspan) s)
form_of is_root kind.Text text s = form_of_text s text
form_of is_root (kind.Replaced w h) text s = replaced_form w h (used_display_of is_root (kind.Replaced w h) s)

-- texts are always in flow
abbrev pub node_flow : Kind → Style → Flow
node_flow kind.Text s = InFlow
node_flow _ s = flow_of s

abbrev pub shows_overflow : Overflow → Bool
shows_overflow Visible = true
shows_overflow _ = false

-- inline-blocks, table cells, captions, wrappers of tables, block boxes whose `overflow` isn't `visible`, and
-- replaced elements
abbrev pub is_context_form : Form → Overflow → Bool
is_context_form InlineBlock overflow = true
is_context_form (Cell colspan rowspan) overflow = true
is_context_form Caption overflow = true
is_context_form Wrapper overflow = true
is_context_form InlineWrapper overflow = true
is_context_form (Replaced w h inline) overflow = true
is_context_form Block overflow = not (shows_overflow overflow)
is_context_form _ overflow = false

-- 9.4.1: "Floats, absolutely positioned elements, block containers (such as inline-blocks, table-cells, and
-- table-captions) that are not block boxes, and block boxes with overflow other than visible establish new
-- block formatting contexts for their contents." So do the root and, in this project, wrappers of tables and
-- replaced elements.
abbrev pub establishes_context : Bool → Flow → Form → Overflow → Bool
establishes_context is_root flow form overflow = is_root || not (is_in_flow flow) || is_context_form form overflow

abbrev pub facts_with : ℕ → Node → Style → Form → Facts
facts_with place n s form = record {
  node = n.id;
  place = place;
  form = form;
  anonymous = false;
  flow = node_flow n.kind s;
  inner = establishes_context (place == 0) (node_flow n.kind s) form s.overflow;
}

-- the box of the node at a place of the document, with this style
abbrev pub node_box : ℕ → Node → Style → Option Facts
node_box place n s = option_map (facts_with place n s) (form_of (place == 0) n.kind n.text s)
