-- What of a box is neither its style nor its text: which boxes there are, how they stand in each other, and what they are. Of the style
-- `position` is left, by which boxes are containing blocks of absolutely positioned ones (CSS 2.2, 10.1).
use Rattle.std.specs.Prelude.{ℕ, Bool, List, [], map}
use Rattle.lay_style.specs.declared.style_words.Position.{Position}
use Rattle.lay_doc.specs.declared.node.NodeId.{NodeId}
use Rattle.lay_box_tree.specs.declared.box_tree.BoxKind.{BoxKind}
use Rattle.lay_box_tree.specs.declared.box_tree.BoxKind.TheVariants.{Text}
use Rattle.lay_box_tree.specs.declared.box_tree.BoxNode.{BoxNode}
use Rattle.lay_box_tree.specs.declared.box_tree.Flow.{Flow}

-- what a box is, of each text the same
abbrev pub bare_kind : BoxKind → BoxKind
bare_kind (Text text) = Text []
bare_kind kind = kind

pub record Unstyled : Type 0 where
  pub node : NodeId
  pub parent : ℕ
  pub kind : BoxKind
  pub flow : Flow
  pub anonymous : Bool
  pub inner : Bool
  pub position : Position

abbrev pub unstyled : BoxNode → Unstyled
unstyled b = record {
  node = b.node;
  parent = b.parent;
  kind = bare_kind b.kind;
  flow = b.flow;
  anonymous = b.anonymous;
  inner = b.inner;
  position = b.style.position;
}

abbrev pub all_unstyled : List BoxNode → List Unstyled
all_unstyled boxes = map unstyled boxes
