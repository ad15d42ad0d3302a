-- What is asked: which piece of a document's tree is seen at a point; and what a walk over the pieces and the nodes has found.
use Rattle.std.specs.Prelude.{ℕ, ◌≡◌, ◌<◌, Bool, true, false, List, length, slice_index_or}
use Rattle.std.specs.Prelude.{Option, Some, None, option_and_then, if◌then◌else◌}
use Rattle.lay_style.specs.Places.{place_of}
use Rattle.lay_doc.specs.Document.{ids_of}
use Rattle.lay_frag.specs.declared.frag.Frag.{Frag}
use Rattle.lay_frag.specs.declared.frag.FragKind.{FragKind}
use Rattle.lay_frag.specs.declared.frag.FragKind.TheVariants as frag_kind
use Rattle.lay_frag.specs.Pieces.{frags_of}
use Rattle.lay_hit.specs.declared.kinds.PaintKind.{PaintKind}
use Rattle.lay_hit.specs.declared.question.Question.{Question}
use Rattle.lay_hit.specs.PaintKinds.{is_inline_paint, kind_at}
use Rattle.lay_hit.specs.Hits.{last_holding}
use Rattle.lay_hit.specs.Pages.{Page, page_of}
use Rattle.lay_hit.specs.Wholes.{own_pieces, whole}

-- the page with these pieces
abbrev pub page_with : Question → List Frag → Page
page_with q fs = page_of q.doc.now.nodes q.styles.now fs

-- the page of the question
abbrev pub page : Question → Page
page q = page_with q (frags_of q.tree.now)

-- the place of the node with which a piece is painted, if it is painted
abbrev pub is_painted : FragKind → PaintKind → Bool
is_painted frag_kind.Box k = true
is_painted frag_kind.Line k = false
is_painted frag_kind.Text k = is_inline_paint k

abbrev pub node_of_piece : Question → Frag → Option ℕ
node_of_piece q f =
    option_and_then (λ k. if is_painted f.kind (kind_at q.doc.now.nodes q.styles.now k) then Some k else None)
    (place_of f.node.0 (ids_of q.doc.now.nodes))

-- of each node the last of these pieces that is its own and holds the point
pub record AreNoted (q : Question) (fs : List Frag) (noted : List (Option Frag)) : Type 0 where
  pub count : length noted ≡ length q.doc.now.nodes
  pub each : (k : ℕ) → k < length q.doc.now.nodes
      → slice_index_or noted k None ≡ last_holding q.at.x.0 q.at.y.0 (own_pieces (page_with q fs) k)

-- the piece that is seen of what a node paints as a whole
abbrev pub seen_in : Question → ℕ → Option Frag
seen_in q k = last_holding q.at.x.0 q.at.y.0 (whole (page q) (length q.doc.now.nodes) k)
