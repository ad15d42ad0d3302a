-- What the box of a node is and isn't.
use Rattle.std.proofs.Common.{◌≡◌, ℕ, Bool, true, false, ◌||◌, not, List, [], ◌∷◌, refl, sym, Option, None, Some, option_map, ◌==◌, subst, if◌then◌else◌}
use Rattle.lay_style.specs.declared.style.Style.{Style}
use Rattle.lay_style.specs.declared.style_words.Display.{Display}
use Rattle.lay_style.specs.declared.style_words.Display.TheVariants as display
use Rattle.lay_style.specs.declared.style_words.Overflow.{Overflow}
use Rattle.lay_doc.specs.declared.node.Kind.{Kind}
use Rattle.lay_doc.specs.declared.node.Kind.TheVariants as kind
use Rattle.lay_doc.specs.declared.node.Node.{Node}
use Rattle.lay_boxgen.specs.Display.{element_form, as_block, used_display, replaced_display, flow_of}
use Rattle.lay_boxgen.specs.Forms.{is_anchor, is_white, is_inline, is_in_flow, is_absolute}
use Rattle.lay_boxgen.specs.NodeBoxes.{form_of, replaced_form, node_flow, facts_with, is_context_form, establishes_context, node_box}
use Rattle.lay_boxgen.specs.declared.facts.Facts.{Facts}
use Rattle.lay_box_tree.specs.declared.box_tree.Flow.{Flow}
use Rattle.lay_box_tree.specs.declared.box_tree.Flow.TheVariants as flow
use Rattle.lay_boxgen.specs.declared.facts.Form.{Form}
use Rattle.lay_boxgen.specs.declared.facts.Form.TheVariants.{Inline}

-- a form, if there is one, that is no anchor
abbrev IsNoAnchor : Option Form → Type 0
IsNoAnchor None = Unit {0}
IsNoAnchor (Some x) = is_anchor x ≡ false

element-no_anchor : (c r : ℕ) (d : Display) → IsNoAnchor (element_form c r d)
element-no_anchor c r display.Inline = refl
element-no_anchor c r display.Block = refl
element-no_anchor c r display.ListItem = refl
element-no_anchor c r display.InlineBlock = refl
element-no_anchor c r display.Table = refl
element-no_anchor c r display.InlineTable = refl
element-no_anchor c r display.TableRowGroup = refl
element-no_anchor c r display.TableHeaderGroup = refl
element-no_anchor c r display.TableFooterGroup = refl
element-no_anchor c r display.TableRow = refl
element-no_anchor c r display.TableColumnGroup = refl
element-no_anchor c r display.TableColumn = refl
element-no_anchor c r display.TableCell = refl
element-no_anchor c r display.TableCaption = refl
element-no_anchor c r display.None = tt

form-no_anchor : (is_root : Bool) (k : Kind) (text : List ℕ) (s : Style) → IsNoAnchor (form_of is_root k text s)
form-no_anchor is_root (kind.Element c r) text s = element-no_anchor c r (used_display is_root (flow_of s) s.display)
form-no_anchor is_root kind.Text [] s = tt
form-no_anchor is_root kind.Text (b ∷ bs) s = refl
form-no_anchor is_root (kind.Replaced w h) text s = by (used_display is_root (flow_of s) (replaced_display s.display))
  where
    by : (d : Display) → IsNoAnchor (replaced_form w h d)
    by display.None = tt
    by _ = refl

-- a form, if there is one, that is neither white space nor an inline box
abbrev IsNoInline : Option Form → Type 0
IsNoInline None = Unit {0}
IsNoInline (Some x) = (is_white x ≡ false) × (is_inline x ≡ false)

element-no_inline : (c r : ℕ) (d : Display) → IsNoInline (element_form c r (as_block d))
element-no_inline c r display.Inline = (refl, refl)
element-no_inline c r display.Block = (refl, refl)
element-no_inline c r display.ListItem = (refl, refl)
element-no_inline c r display.InlineBlock = (refl, refl)
element-no_inline c r display.Table = (refl, refl)
element-no_inline c r display.InlineTable = (refl, refl)
element-no_inline c r display.TableRowGroup = (refl, refl)
element-no_inline c r display.TableHeaderGroup = (refl, refl)
element-no_inline c r display.TableFooterGroup = (refl, refl)
element-no_inline c r display.TableRow = (refl, refl)
element-no_inline c r display.TableColumnGroup = (refl, refl)
element-no_inline c r display.TableColumn = (refl, refl)
element-no_inline c r display.TableCell = (refl, refl)
element-no_inline c r display.TableCaption = (refl, refl)
element-no_inline c r display.None = tt

used-absolute : (is_root : Bool) (f : Flow) (d : Display) → is_absolute f ≡ true → used_display is_root f d ≡ as_block d
used-absolute is_root flow.InFlow d h = cc
used-absolute is_root flow.Floating d h = cc
used-absolute true flow.Absolute d h = refl
used-absolute false flow.Absolute d h = refl

form-no_inline : (is_root : Bool) (k : Kind) (text : List ℕ) (s : Style) → is_absolute (node_flow k s) ≡ true → IsNoInline (form_of is_root k text s)
form-no_inline is_root (kind.Element c r) text s h =
    subst (λ d. IsNoInline (element_form c r d)) (sym (used-absolute is_root (flow_of s) s.display h)) (element-no_inline c r s.display)
form-no_inline is_root kind.Text text s h = cc
form-no_inline is_root (kind.Replaced w h) text s e = by (used_display is_root (flow_of s) (replaced_display s.display))
  where
    by : (d : Display) → IsNoInline (replaced_form w h d)
    by display.None = tt
    by _ = (refl, refl)

absolute-establishes : (r c : Bool) (f : Flow) → is_absolute f ≡ true → (r || not (is_in_flow f) || c) ≡ true
absolute-establishes r c flow.InFlow h = cc
absolute-establishes r c flow.Floating h = cc
absolute-establishes true c flow.Absolute h = refl
absolute-establishes false c flow.Absolute h = refl

context_form-no_inline : (x : Form) (o : Overflow) → is_context_form x o ≡ true → is_inline x ≡ false
context_form-no_inline Inline o h = cc
context_form-no_inline _ o h = refl

-- a form, if there is one, that is no inline box where it establishes a context
abbrev IsNoInlineContext : Bool → Flow → Overflow → Option Form → Type 0
IsNoInlineContext is_root flow overflow None = Unit {0}
IsNoInlineContext is_root flow overflow (Some x) = establishes_context is_root flow x overflow ≡ true → is_inline x ≡ false

no_inline_context : (is_root : Bool) (f : Flow) (overflow : Overflow) (o : Option Form) → IsNoInline o → IsNoInlineContext is_root f overflow o
no_inline_context is_root f overflow None h = tt
no_inline_context is_root f overflow (Some x) h = λ e. h.1

-- a box in flow that isn't the root's establishes a context by its form alone
by_form : (is_root : Bool) (f : Flow) (overflow : Overflow) (o : Option Form) → (is_root || not (is_in_flow f)) ≡ false → IsNoInlineContext is_root f overflow o
by_form is_root f overflow None h = tt
by_form is_root f overflow (Some x) h = λ e. context_form-no_inline x overflow (by (is_root || not (is_in_flow f)) h e)
  where
    by : (b : Bool) → b ≡ false → (b || is_context_form x overflow) ≡ true → is_context_form x overflow ≡ true
    by true b e = cc
    by false b e = e

element-no_inline_context : (is_root : Bool) (c r : ℕ) (f : Flow) (overflow : Overflow) (d : Display) → (b : Bool) → (is_root || not (is_in_flow f)) ≡ b
    → IsNoInlineContext is_root f overflow (element_form c r (if b then as_block d else d))
element-no_inline_context is_root c r f overflow d true h = no_inline_context is_root f overflow (element_form c r (as_block d)) (element-no_inline c r d)
element-no_inline_context is_root c r f overflow d false h = by_form is_root f overflow (element_form c r d) h

form-no_inline_context : (is_root : Bool) (k : Kind) (text : List ℕ) (s : Style) → IsNoInlineContext is_root (node_flow k s) s.overflow (form_of is_root k text s)
form-no_inline_context is_root (kind.Element c r) text s =
    element-no_inline_context is_root c r (flow_of s) s.overflow s.display (is_root || not (is_in_flow (flow_of s))) refl
form-no_inline_context is_root kind.Text [] s = tt
form-no_inline_context is_root kind.Text (b ∷ bs) s = λ e. refl
form-no_inline_context is_root (kind.Replaced w h) text s = by (used_display is_root (flow_of s) (replaced_display s.display))
  where
    by : (d : Display) → IsNoInlineContext is_root (flow_of s) s.overflow (replaced_form w h d)
    by display.None = tt
    by _ = λ e. refl

-- what is known of a node's box
pub record IsBoxOf (k : ℕ) (n : Node) (f : Facts) : Type 0 where
  pub place : f.place ≡ k
  pub node : f.node ≡ n.id
  pub no_anchor : is_anchor f.form ≡ false
  pub no_inline : is_absolute f.flow ≡ true → (is_white f.form ≡ false) × (is_inline f.form ≡ false)
  pub inner : is_absolute f.flow ≡ true → f.inner ≡ true
  pub context : f.inner ≡ true → is_inline f.form ≡ false

-- the same, if it has one
abbrev pub IsNodeBox : ℕ → Node → Option Facts → Type 0
IsNodeBox k n None = Unit {0}
IsNodeBox k n (Some f) = IsBoxOf k n f

box_by : (k : ℕ) (n : Node) (s : Style) (o : Option Form) → IsNoAnchor o → (is_absolute (node_flow n.kind s) ≡ true → IsNoInline o)
    → IsNoInlineContext (k == 0) (node_flow n.kind s) s.overflow o → IsNodeBox k n (option_map (facts_with k n s) o)
box_by k n s None h g c = tt
box_by k n s (Some x) h g c = record {
  place = refl;
  node = refl;
  no_anchor = h;
  no_inline = g;
  inner = λ a. absolute-establishes (k == 0) (is_context_form x s.overflow) (node_flow n.kind s) a;
  context = c;
}

pub is-node_box : (k : ℕ) (n : Node) (s : Style) → IsNodeBox k n (node_box k n s)
is-node_box k n s =
    box_by k n s (form_of (k == 0) n.kind n.text s) (form-no_anchor (k == 0) n.kind n.text s) (form-no_inline (k == 0) n.kind n.text s)
    (form-no_inline_context (k == 0) n.kind n.text s)
