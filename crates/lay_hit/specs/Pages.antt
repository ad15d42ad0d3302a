-- What painting reads of a document and its tree: of each node the place of its parent, how it is painted, its level, its
-- boxes and its texts. An anonymous box is painted with its element, and a node's pieces stand by rising part. Lines aren't
-- painted.
use Rattle.std.specs.Prelude.{ℕ, ℤ, Bool, true, false, ◌&&◌, ◌==◌, List, length, filter, slice_index, nat_le}
use Rattle.lay_style.specs.declared.style.Style.{Style}
use Rattle.lay_doc.specs.declared.node.Node.{Node}
use Rattle.lay_doc.specs.Document.{parents_of, ids_of}
use Rattle.lay_frag.specs.declared.frag.Frag.{Frag}
use Rattle.lay_frag.specs.declared.frag.FragKind.{FragKind}
use Rattle.lay_frag.specs.declared.frag.FragKind.TheVariants as frag_kind
use Rattle.lay_hit.specs.declared.kinds.PaintKind.{PaintKind}
use Rattle.lay_hit.specs.PaintKinds.{kind_at, level_at}
use Rattle.lay_hit.specs.Sorting.{in_order}

pub record Page : Type 0 where
  pub count : ℕ
  pub parent : ℕ → ℕ
  pub kind : ℕ → PaintKind
  pub level : ℕ → ℤ
  pub boxes : ℕ → List Frag
  pub boxes_and_texts : ℕ → List Frag

abbrev pub is_box_piece : FragKind → Bool
is_box_piece frag_kind.Box = true
is_box_piece frag_kind.Line = false
is_box_piece frag_kind.Text = false

abbrev pub is_box_or_text : FragKind → Bool
is_box_or_text frag_kind.Box = true
is_box_or_text frag_kind.Line = false
is_box_or_text frag_kind.Text = true

abbrev pub is_box_of : ℕ → Frag → Bool
is_box_of id f = is_box_piece f.kind && (f.node.0 == id)

abbrev pub is_box_or_text_of : ℕ → Frag → Bool
is_box_or_text_of id f = is_box_or_text f.kind && (f.node.0 == id)

abbrev pub by_part : List Frag → List Frag
by_part fs = in_order (λ f g. nat_le f.part g.part) fs

abbrev pub id_of : List Node → ℕ → ℕ
id_of nodes k = slice_index (ids_of nodes) k

-- the page of a document with these nodes and styles whose pieces, in page coordinates, are these
abbrev pub page_of : List Node → List Style → List Frag → Page
page_of nodes styles frags = record {
  count = length nodes;
  parent = λ k. slice_index (parents_of nodes) k;
  kind = kind_at nodes styles;
  level = level_at nodes styles;
  boxes = λ k. by_part (filter (is_box_of (id_of nodes k)) frags);
  boxes_and_texts = λ k. by_part (filter (is_box_or_text_of (id_of nodes k)) frags);
}
