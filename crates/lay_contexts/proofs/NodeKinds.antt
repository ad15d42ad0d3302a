-- What the box of a node of some kind is not.
use Rattle.std.proofs.Common.{◌≡◌, ◌<◌, ℕ, zero, suc, ◌==◌, Bool, true, false, ◌||◌, not, List, [], ◌∷◌, refl, ap, sym, subst, ◌∙◌, Option, None, Some, option_map, slice_get, arith}
use Rattle.lay_style.specs.declared.style.Style.{Style}
use Rattle.lay_style.specs.declared.style_words.Display.{Display}
use Rattle.lay_style.specs.declared.style_words.Display.TheVariants as display
use Rattle.lay_doc.specs.declared.node.Kind.{Kind}
use Rattle.lay_doc.specs.declared.node.Kind.TheVariants as kind
use Rattle.lay_doc.specs.declared.node.Node.{Node}
use Rattle.lay_doc.specs.Document.{is_element_at}
use Rattle.lay_doc.specs.NewNodes.{is_element}
use Rattle.lay_boxgen.specs.Display.{as_block, element_form, flow_of, replaced_display, used_display}
use Rattle.lay_boxgen.specs.Forms.{is_absolute, is_column, is_text}
use Rattle.lay_style.specs.declared.style_words.Overflow.{Overflow}
use Rattle.lay_boxgen.specs.NodeBoxes.{establishes_context, facts_with, form_of, node_box, node_flow, replaced_form}
use Rattle.lay_boxgen.specs.declared.facts.Facts.{Facts}
use Rattle.lay_box_tree.specs.declared.box_tree.Flow.{Flow}
use Rattle.lay_box_tree.specs.declared.box_tree.Flow.TheVariants as flow
use Rattle.lay_boxgen.specs.declared.facts.Form.{Form}

pub element-there : (nodes : List Node) (k : ℕ) (n : Node) → slice_get nodes k ≡ Some n → is_element_at nodes k ≡ true → is_element n.kind ≡ true
element-there [] k n h e = cc
element-there (x ∷ xs) zero n h e = ap (λ o. is_element (unwrap x o).kind) (sym h) ∙ e
  where
    unwrap : Node → Option Node → Node
    unwrap y None = y
    unwrap y (Some w) = w
element-there (x ∷ xs) (suc k) n h e = element-there xs k n h e

-- a form, if there is one, that is no text
abbrev IsNoText : Option Form → Type 0
IsNoText None = Unit {0}
IsNoText (Some x) = is_text x ≡ false

element-no_text : (c r : ℕ) (d : Display) → IsNoText (element_form c r d)
element-no_text c r display.Inline = refl
element-no_text c r display.Block = refl
element-no_text c r display.ListItem = refl
element-no_text c r display.InlineBlock = refl
element-no_text c r display.Table = refl
element-no_text c r display.InlineTable = refl
element-no_text c r display.TableRowGroup = refl
element-no_text c r display.TableHeaderGroup = refl
element-no_text c r display.TableFooterGroup = refl
element-no_text c r display.TableRow = refl
element-no_text c r display.TableColumnGroup = refl
element-no_text c r display.TableColumn = refl
element-no_text c r display.TableCell = refl
element-no_text c r display.TableCaption = refl
element-no_text c r display.None = tt

replaced-no_text : (w h : _) (d : Display) → IsNoText (replaced_form w h d)
replaced-no_text w h display.None = tt
replaced-no_text w h _ = refl

-- what a box, if there is one, is not
abbrev pub IsNoTextBox : Option Facts → Type 0
IsNoTextBox None = Unit {0}
IsNoTextBox (Some f) = is_text f.form ≡ false

of-form : (k : ℕ) (n : Node) (s : Style) (o : Option Form) → IsNoText o → IsNoTextBox (option_map (facts_with k n s) o)
of-form k n s None h = tt
of-form k n s (Some x) h = h

-- an element's box is no text
pub element-box : (k : ℕ) (n : Node) (s : Style) → is_element n.kind ≡ true → IsNoTextBox (node_box k n s)
element-box k n s h = of-form k n s (form_of (k == 0) n.kind n.text s) (by n.kind h)
  where
    by : (x : Kind) → is_element x ≡ true → IsNoText (form_of (k == 0) x n.text s)
    by (kind.Element c r) h = element-no_text c r (used_display (k == 0) (flow_of s) s.display)
    by kind.Text h = absurd cc
    by (kind.Replaced w h) e = absurd cc

-- a box of an inner context behind the root is no text
abbrev pub IsNoTextWhereInner : Option Facts → Type 0
IsNoTextWhereInner None = Unit {0}
IsNoTextWhereInner (Some f) = f.inner ≡ true → is_text f.form ≡ false

not-inner : (is_root : Bool) → is_root ≡ false → (is_root || not true || false) ≡ true → ⊥
not-inner true e h = cc
not-inner false e h = cc

-- a form, if there is one, that is no text where it establishes a context
abbrev IsNoTextContext : Bool → Flow → Overflow → Option Form → Type 0
IsNoTextContext is_root flow overflow None = Unit {0}
IsNoTextContext is_root flow overflow (Some x) = establishes_context is_root flow x overflow ≡ true → is_text x ≡ false

no_text_context : (is_root : Bool) (f : Flow) (overflow : Overflow) (o : Option Form) → IsNoText o → IsNoTextContext is_root f overflow o
no_text_context is_root f overflow None h = tt
no_text_context is_root f overflow (Some x) h = λ e. h

form-no_text_context : (is_root : Bool) → is_root ≡ false → (k : Kind) (text : List ℕ) (s : Style) → IsNoTextContext is_root (node_flow k s) s.overflow (form_of is_root k text s)
form-no_text_context is_root r (kind.Element c row) text s =
    no_text_context is_root (flow_of s) s.overflow (element_form c row (used_display is_root (flow_of s) s.display)) (element-no_text c row (used_display is_root (flow_of s) s.display))
form-no_text_context is_root r kind.Text [] s = tt
form-no_text_context is_root r kind.Text (b ∷ bs) s = λ h. absurd (not-inner is_root r h)
form-no_text_context is_root r (kind.Replaced w h) text s =
    no_text_context is_root (flow_of s) s.overflow (replaced_form w h (used_display is_root (flow_of s) (replaced_display s.display)))
    (replaced-no_text w h (used_display is_root (flow_of s) (replaced_display s.display)))

pub inner-box : (k : ℕ) (n : Node) (s : Style) → 0 < k → IsNoTextWhereInner (node_box k n s)
inner-box k n s positive = by (form_of (k == 0) n.kind n.text s) (form-no_text_context (k == 0) no-root n.kind n.text s)
  where
    no-root : (k == 0) ≡ false
    no-root = grind (arith, positive)

    by : (o : Option Form) → IsNoTextContext (k == 0) (node_flow n.kind s) s.overflow o → IsNoTextWhereInner (option_map (facts_with k n s) o)
    by None h = tt
    by (Some x) h = h

-- a form, if there is one, that is no column
abbrev IsNoColumn : Option Form → Type 0
IsNoColumn None = Unit {0}
IsNoColumn (Some x) = is_column x ≡ false

block-no_column : (c r : ℕ) (d : Display) → IsNoColumn (element_form c r (as_block d))
block-no_column c r display.Inline = refl
block-no_column c r display.Block = refl
block-no_column c r display.ListItem = refl
block-no_column c r display.InlineBlock = refl
block-no_column c r display.Table = refl
block-no_column c r display.InlineTable = refl
block-no_column c r display.TableRowGroup = refl
block-no_column c r display.TableHeaderGroup = refl
block-no_column c r display.TableFooterGroup = refl
block-no_column c r display.TableRow = refl
block-no_column c r display.TableColumnGroup = refl
block-no_column c r display.TableColumn = refl
block-no_column c r display.TableCell = refl
block-no_column c r display.TableCaption = refl
block-no_column c r display.None = tt

used-absolute : (is_root : Bool) (f : Flow) (d : Display) → is_absolute f ≡ true → used_display is_root f d ≡ as_block d
used-absolute is_root flow.InFlow d h = cc
used-absolute is_root flow.Floating d h = cc
used-absolute true flow.Absolute d h = refl
used-absolute false flow.Absolute d h = refl

form-no_column : (is_root : Bool) (k : Kind) (text : List ℕ) (s : Style) → is_absolute (node_flow k s) ≡ true → IsNoColumn (form_of is_root k text s)
form-no_column is_root (kind.Element c r) text s h =
    subst (λ d. IsNoColumn (element_form c r d)) (sym (used-absolute is_root (flow_of s) s.display h)) (block-no_column c r s.display)
form-no_column is_root kind.Text text s h = cc
form-no_column is_root (kind.Replaced w h) text s e = by (used_display is_root (flow_of s) (replaced_display s.display))
  where
    by : (d : Display) → IsNoColumn (replaced_form w h d)
    by display.None = tt
    by _ = refl

-- an absolute or fixed box, if there is one, is no column
abbrev pub IsNoColumnWhereAbsolute : Option Facts → Type 0
IsNoColumnWhereAbsolute None = Unit {0}
IsNoColumnWhereAbsolute (Some f) = is_absolute f.flow ≡ true → is_column f.form ≡ false

pub absolute-box : (k : ℕ) (n : Node) (s : Style) → IsNoColumnWhereAbsolute (node_box k n s)
absolute-box k n s = by (form_of (k == 0) n.kind n.text s) (form-no_column (k == 0) n.kind n.text s)
  where
    by : (o : Option Form) → (is_absolute (node_flow n.kind s) ≡ true → IsNoColumn o) → IsNoColumnWhereAbsolute (option_map (facts_with k n s) o)
    by None h = tt
    by (Some x) h = h
