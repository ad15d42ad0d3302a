-- Each box and each text of a tree is painted once, and lines are not. The order of painting is one walk over the nodes, and puts
-- boxes in front of each other as the standard says it of two boxes. The last piece that holds a point is the only one behind which
-- none does. Rectangles that meet at an edge share no point.
use Rattle.std.specs.Prelude.{ℕ, ℤ, ◌≡◌, ◌<◌, ◌↔◌, Bool, true, false, List, length, filter, slice_get, IfSome, IsPermutation, Some}
use Rattle.lay_style.specs.declared.style.Style.{Style}
use Rattle.lay_doc.specs.Document.{Document, IsDocument}
use Rattle.lay_doc.specs.NewNodes.{is_text}
use Rattle.lay_frag.specs.declared.frag.Frag.{Frag}
use Rattle.lay_frag.specs.declared.frag.FragKind.{FragKind}
use Rattle.lay_frag.specs.declared.frag.FragKind.TheVariants as frag_kind
use Rattle.lay_frag.specs.Pieces.{Context, frags_of}
use Rattle.lay_hit.specs.PaintKinds.{node_kind}
use Rattle.lay_hit.specs.Pages.{id_of, is_box_or_text, page_of}
use Rattle.lay_hit.specs.Wholes.{whole}
use Rattle.lay_hit.specs.Stacking.{ArePaintedIn, IsStacked}
use Rattle.lay_hit.specs.Hits.{holds, last_holding, painted}

abbrev pub is_text_piece : FragKind → Bool
is_text_piece frag_kind.Box = false
is_text_piece frag_kind.Line = false
is_text_piece frag_kind.Text = true

-- the piece is one of a node of the document, and that of a text is one of a text
pub record IsPieceOf (d : Document) (f : Frag) : Type 0 where
  pub at : ℕ
  pub within : at < length d.nodes
  pub node : id_of d.nodes at ≡ f.node.0
  pub text : is_text_piece f.kind ≡ true → is_text (node_kind d.nodes at) ≡ true

-- a tree of whose pieces this holds, as it does where the tree solves the document
abbrev pub ArePiecesOf : Document → List Context → Type 0
ArePiecesOf d tree = (k : ℕ) → k < length (frags_of tree) → IfSome (slice_get (frags_of tree) k) (IsPieceOf d)

abbrev pub PaintsEachOnce : Type 0
PaintsEachOnce = (d : Document) (styles : List Style) (tree : List Context) → IsDocument d → ArePiecesOf d tree
    → IsPermutation (filter (λ f. is_box_or_text f.kind) (frags_of tree)) (painted d styles tree)

-- The seven steps give each node's own pieces and then, by rank and in document order, what it paints.
abbrev pub PaintingIsWalk : Type 0
PaintingIsWalk = (d : Document) (styles : List Style) (tree : List Context) → IsDocument d
    → painted d styles tree ≡ whole (page_of d.nodes styles (frags_of tree)) (length d.nodes) 0

-- f holds the point, and none behind it in the list does
pub record IsLastHolding (x y : ℤ) (fs : List Frag) (f : Frag) : Type 0 where
  pub at : ℕ
  pub is : slice_get fs at ≡ Some f
  pub holding : holds x y f ≡ true
  pub last : (k : ℕ) → at < k → IfSome (slice_get fs k) (λ g. holds x y g ≡ false)

abbrev pub OneLastHolding : Type 0
OneLastHolding = (x y : ℤ) (fs : List Frag) (f : Frag) → (last_holding x y fs ≡ Some f) ↔ IsLastHolding x y fs f

-- There is an order of nodes in which the pieces are painted, and it is that of 9.9.1 and Appendix E.
abbrev pub PaintedInOrder : Type 0
PaintedInOrder = (d : Document) (styles : List Style) (tree : List Context) → IsDocument d
    → (order : List ℕ) × ArePaintedIn (page_of d.nodes styles (frags_of tree)) (painted d styles tree) order
    × IsStacked (page_of d.nodes styles (frags_of tree)) order
