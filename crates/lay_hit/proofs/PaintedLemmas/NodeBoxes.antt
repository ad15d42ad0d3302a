-- The boxes of a context are boxes of nodes of its document, and those of texts are of texts.
use Rattle.std.proofs.Common.{◌≡◌, ◌<◌, ℕ, zero, suc, ◌==◌, Bool, true, false, All, List, [], ◌∷◌, length, slice_get, refl, ap, ◌∙◌, Option, None, Some, option_map}
use Rattle.lay_style.specs.declared.style.Style.{Style}
use Rattle.lay_style.specs.declared.style_words.Display.{Display}
use Rattle.lay_style.specs.declared.style_words.Display.TheVariants as display
use Rattle.lay_style.specs.ComputedStyle.{style_at}
use Rattle.lay_doc.specs.declared.node.Kind.{Kind}
use Rattle.lay_doc.specs.declared.node.Kind.TheVariants as kind
use Rattle.lay_doc.specs.declared.node.Node.{Node}
use Rattle.lay_doc.specs.Document.{Document, IsDocument}
use Rattle.lay_doc.specs.NewNodes.{is_text}
use Rattle.lay_boxgen.specs.Boxes.{Tree, tree}
use Rattle.lay_boxgen.specs.Forms.{is_absolute, is_text as is_text_form}
use Rattle.lay_boxgen.specs.Runs.{anonymous_facts}
use Rattle.lay_boxgen.specs.TableWrappers.{table_facts}
use Rattle.lay_boxgen.specs.declared.facts.Facts.{Facts}
use Rattle.lay_boxgen.specs.declared.facts.Form.{Form}
use Rattle.lay_boxgen.specs.declared.facts.Form.TheVariants as form
use Rattle.lay_box_tree.specs.declared.box_tree.BoxKind.{BoxKind}
use Rattle.lay_box_tree.specs.declared.box_tree.BoxKind.TheVariants as box_kind
use Rattle.lay_box_tree.specs.declared.box_tree.BoxNode.{BoxNode}
use Rattle.lay_boxgen.specs.Contexts.{box_at, box_of_node}
use Rattle.lay_boxgen.specs.Display.{element_form, used_display_of}
use Rattle.lay_boxgen.specs.InnerBoxes.{AllOf}
use Rattle.lay_boxgen.specs.Listing.{box_node, kind_of, listed_part, text_at}
use Rattle.lay_boxgen.specs.NodeBoxes.{facts_with, form_of, replaced_form}
use Rattle.lay_boxgen.specs.NodeTrees.{anchor_facts, as_own, tree_at}
use Rattle.lay_boxgen.specs.Parts.{generated_of, own_tree, part, whole}
use Rattle.lay_hit.proofs.Cited.{all_boxes, IsNodeTree, IsOfNode, node_tree}
use Rattle.lay_hit.specs.PaintKinds.{node_kind}
use Rattle.lay_hit.specs.Pages.{id_of}
use Rattle.lay_hit.proofs.PaintedLemmas.EveryBox.{every-generated}

-- The form of a box that is a text's.
abbrev NoText : Option Form → Type 0
NoText None = Unit {0}
NoText (Some x) = is_text_form x ≡ false

element-no-text : (c r : ℕ) (d : Display) → NoText (element_form c r d)
element-no-text c r display.None = tt
element-no-text c r _ = refl

replaced-no-text : (w h : _) (d : Display) → NoText (replaced_form w h d)
replaced-no-text w h display.None = tt
replaced-no-text w h _ = refl

no-text-there : (o : Option Form) (x : Form) → NoText o → o ≡ Some x → is_text_form x ≡ true → ⊥
no-text-there None x h e t = cc
no-text-there (Some y) x h e t = let g : y ≡ x = cc in (let w = ap is_text_form g in cc)

text-of-text : (is_root : Bool) (x : Kind) (text : List ℕ) (s : Style) (y : Form) → form_of is_root x text s ≡ Some y → is_text_form y ≡ true → is_text x ≡ true
text-of-text is_root (kind.Element c r) text s y e t =
    absurd (no-text-there (element_form c r (used_display_of is_root (kind.Element c r) s)) y (element-no-text c r (used_display_of is_root (kind.Element c r) s)) e t)
text-of-text is_root kind.Text text s y e t = refl
text-of-text is_root (kind.Replaced w h) text s y e t =
    absurd (no-text-there (replaced_form w h (used_display_of is_root (kind.Replaced w h) s)) y (replaced-no-text w h (used_display_of is_root (kind.Replaced w h) s)) e t)

kind-there : (nodes : List Node) (k : ℕ) (n : Node) → slice_get nodes k ≡ Some n → node_kind nodes k ≡ n.kind
kind-there [] k n e = absurd cc
kind-there (x ∷ xs) zero n e = let h : x ≡ n = cc in ap (λ (y : Node). y.kind) h
kind-there (x ∷ xs) (suc k) n e = kind-there xs k n e

facts-text : (k : ℕ) (n : Node) (s : Style) (o : Option Form) (f : Facts) → form_of (k == 0) n.kind n.text s ≡ o → option_map (facts_with k n s) o ≡ Some f
    → is_text_form f.form ≡ true → is_text n.kind ≡ true
facts-text k n s None f h e t = absurd cc
facts-text k n s (Some x) f h e t =
    let g : facts_with k n s x ≡ f = cc in
    text-of-text (k == 0) n.kind n.text s x h (ap (λ (y : Facts). is_text_form y.form) g ∙ t)

box-text-by : (nodes : List Node) (k : ℕ) (o : Option Node) (s : Style) (f : Facts) → slice_get nodes k ≡ o → box_of_node k o s ≡ Some f → is_text_form f.form ≡ true
    → is_text (node_kind nodes k) ≡ true
box-text-by nodes k None s f get e t = absurd cc
box-text-by nodes k (Some n) s f get e t =
    ap is_text (kind-there nodes k n get) ∙ facts-text k n s (form_of (k == 0) n.kind n.text s) f refl e t

box-text : (nodes : List Node) (styles : List Style) (k : ℕ) (f : Facts) → box_at nodes styles k ≡ Some f → is_text_form f.form ≡ true → is_text (node_kind nodes k) ≡ true
box-text nodes styles k f e t = box-text-by nodes k (slice_get nodes k) (style_at styles k) f refl e t

-- what is known of a box names a node, which is a text where the box is
record Names (nodes : List Node) (f : Facts) : Type 0 where
  pub within : f.place < length nodes
  pub node : id_of nodes f.place ≡ f.node.0
  pub text : is_text_form f.form ≡ true → is_text (node_kind nodes f.place) ≡ true

abbrev pub is_text_box : BoxKind → Bool
is_text_box (box_kind.Text text) = true
is_text_box _ = false

-- the box is of a node of these, and of a text where it is one
pub record IsBoxOf (nodes : List Node) (b : BoxNode) : Type 0 where
  pub at : ℕ
  pub within : at < length nodes
  pub node : id_of nodes at ≡ b.node.0
  pub text : is_text_box b.kind ≡ true → is_text (node_kind nodes at) ≡ true

text-kind : (text : List ℕ) (x : Form) → is_text_box (kind_of text x) ≡ true → is_text_form x ≡ true
text-kind text (form.Text t) e = refl
text-kind text _ e = absurd cc

module _ (d : Document) (styles : List Style) (doc : IsDocument d) (same : length styles ≡ length d.nodes) where
  child : (f : Facts) → IsOfNode d.nodes styles f → is_absolute f.flow ≡ false → Names d.nodes f
  child f n flow = record { within = n.within; node = n.node; text = λ t. box-text d.nodes styles f.place f n.there t }

  anchor : (f : Facts) → IsOfNode d.nodes styles f → is_absolute f.flow ≡ true → Names d.nodes (anchor_facts f)
  anchor f n flow = record { within = n.within; node = n.node; text = λ t. absurd cc }

  own : (f : Facts) → IsOfNode d.nodes styles f → Names d.nodes (as_own f)
  own f n = record { within = n.within; node = n.node; text = λ t. box-text d.nodes styles f.place f n.there t }

  round : (f : Facts) (x : Form) → is_text_form x ≡ false → Names d.nodes f → Names d.nodes (anonymous_facts f x)
  round f x no_text n = record { within = n.within; node = n.node; text = λ t. absurd cc }

  in_table : (f : Facts) → Names d.nodes f → Names d.nodes (table_facts f)
  in_table f n = record { within = n.within; node = n.node; text = λ t. absurd cc }

  generated-names : (o : Option Tree) → IsNodeTree d.nodes styles (Names d.nodes) o → AllOf (Names d.nodes) (generated_of o)
  generated-names None h = tt
  generated-names (Some (tree f us)) h = every-generated (Names d.nodes) round in_table (own_tree (tree f us)) (own f h.0, h.1)

  whole-names : (k : ℕ) → AllOf (Names d.nodes) (whole d.nodes styles k)
  whole-names k = generated-names (tree_at d.nodes styles k) (node_tree d styles doc same (Names d.nodes) child anchor own k)

  says : (above : Facts) (parent : ℕ) (f : Facts) → Names d.nodes f → IsBoxOf d.nodes (box_node d.nodes styles above parent f)
  says above parent f n = record {
    at = f.place;
    within = n.within;
    node = n.node;
    text = λ t. n.text (text-kind (text_at d.nodes f.place) f.form t);
  }

  pub context-boxes : (k : ℕ) → All (IsBoxOf d.nodes) (listed_part d.nodes styles (part d.nodes styles k))
  context-boxes k = all_boxes d.nodes styles (Names d.nodes) (IsBoxOf d.nodes) says k (whole-names k)
