-- What stands for the box of an inner context is in its flow, and is an anchor just where it is absolutely positioned.
use Rattle.std.proofs.Common.{◌≡◌, ℕ, ◌<◌, true, false, List, length, slice_index, refl, sym, ◌∙◌, Option, None, Some}
use Rattle.lay_style.specs.declared.style.Style.{Style}
use Rattle.lay_doc.specs.declared.node.Node.{Node}
use Rattle.lay_doc.specs.Document.{ids_of}
use Rattle.lay_boxgen.specs.Boxes.{Tree, tree, in_box, remade}
use Rattle.lay_boxgen.specs.Contexts.{box_at}
use Rattle.lay_boxgen.specs.Forms as forms
use Rattle.lay_boxgen.specs.InnerBoxes.{AllOf}
use Rattle.lay_boxgen.specs.Irrelevant.{relevant}
use Rattle.lay_boxgen.specs.Listing.{box_node, kind_of, text_at}
use Rattle.lay_boxgen.specs.NodeTrees.{anchor_facts, as_own, tree_at}
use Rattle.lay_boxgen.specs.Parts.{generated_of}
use Rattle.lay_boxgen.specs.declared.facts.Facts.{Facts}
use Rattle.lay_box_tree.specs.declared.box_tree.Flow.{Flow}
use Rattle.lay_box_tree.specs.declared.box_tree.Flow.TheVariants.{InFlow, Floating, Absolute}
use Rattle.lay_boxgen.specs.declared.facts.Form.{Form}
use Rattle.lay_boxgen.specs.declared.facts.Form.TheVariants.{Block, InlineBlock, Inline, Text, Replaced, Wrapper, InlineWrapper, Table, Caption, RowGroup, HeaderGroup, FooterGroup, Row, ColumnGroup, Column, Cell, Anchor}
use Rattle.lay_contexts.proofs.Cited.{every-generated, every-in_box, every-kept, every-relevant, every-remade}
use Rattle.lay_contexts.specs.FlowLaws.{InnerBoxesKeepFlow, StandsWhereInner, is_anchor}
use Rattle.lay_contexts.proofs.ListedFacts.{all_boxes}
use Rattle.lay_contexts.proofs.NodeFacts.{IsNodeTree, IsOfNode, node_tree}

anchor_kind : (text : List ℕ) (x : Form) → is_anchor (kind_of text x) ≡ forms.is_anchor x
anchor_kind text Block = refl
anchor_kind text InlineBlock = refl
anchor_kind text Inline = refl
anchor_kind text (Text t) = refl
anchor_kind text (Replaced w h inline) = refl
anchor_kind text Wrapper = refl
anchor_kind text InlineWrapper = refl
anchor_kind text Table = refl
anchor_kind text Caption = refl
anchor_kind text RowGroup = refl
anchor_kind text HeaderGroup = refl
anchor_kind text FooterGroup = refl
anchor_kind text Row = refl
anchor_kind text (ColumnGroup span) = refl
anchor_kind text (Column span) = refl
anchor_kind text (Cell colspan rowspan) = refl
anchor_kind text Anchor = refl

absolute : (x : Flow) → forms.is_absolute x ≡ true → Absolute ≡ x
absolute InFlow e = cc
absolute Floating e = cc
absolute Absolute e = refl

module _ (nodes : List Node) (styles : List Style) where
  -- a box with these facts stands for the box of a node
  record StandsFor (f : Facts) : Type 0 where
    within : f.place < length nodes
    node : slice_index (ids_of nodes) f.place ≡ f.node.0
    box : Facts
    there : box_at nodes styles f.place ≡ Some box
    flow : f.flow ≡ box.flow
    anchor : forms.is_anchor f.form ≡ forms.is_absolute box.flow

  abbrev P : Facts → Type 0
  P f = f.inner ≡ true → StandsFor f

  opened : (f : Facts) → f.inner ≡ false → P f
  opened f h = λ e. cc

  child : (f : Facts) → IsOfNode nodes styles f → forms.is_absolute f.flow ≡ false → P f
  child f n e = λ inner. record { within = n.within; node = n.node; box = f; there = n.there; flow = refl; anchor = n.no_anchor ∙ sym e }

  anchored : (f : Facts) → IsOfNode nodes styles f → forms.is_absolute f.flow ≡ true → P (anchor_facts f)
  anchored f n e = λ inner. record { within = n.within; node = n.node; box = f; there = n.there; flow = absolute f.flow e; anchor = sym e }

  inside : (f : Facts) → IsOfNode nodes styles f → P (as_own f)
  inside f n = opened (as_own f) refl

  all_relevant : (f : Facts) (ts : List Tree) → AllOf P ts → AllOf P (relevant f ts)
  all_relevant f ts h = every-relevant P opened f ts (every-kept P opened f.form ts h)

  all_generated : (o : Option Tree) → IsNodeTree nodes styles P o → AllOf P (generated_of o)
  all_generated None h = tt
  all_generated (Some (tree f us)) h =
      every-generated P opened (remade (in_box relevant) (tree (as_own f) us))
      (every-remade P opened (in_box relevant) (every-in_box P opened relevant all_relevant) (tree (as_own f) us) (opened (as_own f) refl, h.1))

  says : (above : Facts) (parent : ℕ) (f : Facts) → P f → StandsWhereInner nodes styles (box_node nodes styles above parent f)
  says above parent f p = λ inner. (let s = p inner in
      record { place = f.place; within = s.within; node = s.node; box = s.box; there = s.there; flow = s.flow; anchor = anchor_kind (text_at nodes f.place) f.form ∙ s.anchor })

pub inner_flows : InnerBoxesKeepFlow
inner_flows d styles k doc same =
    all_boxes d.nodes styles (P d.nodes styles) (StandsWhereInner d.nodes styles) (says d.nodes styles) k
    (all_generated d.nodes styles (tree_at d.nodes styles k)
    (node_tree d styles doc same (P d.nodes styles) (child d.nodes styles) (anchored d.nodes styles) (inside d.nodes styles) k))
