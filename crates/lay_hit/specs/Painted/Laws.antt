-- A solved document is painted once. The pieces of a tree that solves a document are of the document's nodes, and those of texts
-- are of texts (9.2, 9.4.2). So, by the order of painting (Appendix E), each of its boxes and each part of its texts on a line is
-- painted, and none is painted twice.
use Rattle.std.specs.Prelude.{List, filter, IsPermutation}
use Rattle.lay_style.specs.declared.style.Style.{Style}
use Rattle.lay_doc.specs.Document.{Document, IsDocument}
use Rattle.lay_face.specs.FaceValue.{FaceValue}
use Rattle.lay_frag.specs.Pieces.{Context, frags_of}
use Rattle.lay_context.specs.Solves.{Solves}
use Rattle.lay_hit.specs.Hits.{painted}
use Rattle.lay_hit.specs.Laws.{ArePiecesOf}
use Rattle.lay_hit.specs.Pages.{is_box_or_text}

abbrev pub SolvedPiecesAreOfNodes : Type 0
SolvedPiecesAreOfNodes = (d : Document) (face : FaceValue) (tree : List Context) → IsDocument d → Solves d face tree → ArePiecesOf d tree

-- the boxes and texts of the tree are what is painted, in another order
abbrev pub IsPaintedOnce : Document → List Style → List Context → Type 0
IsPaintedOnce d styles tree = IsPermutation (filter (λ f. is_box_or_text f.kind) (frags_of tree)) (painted d styles tree)

abbrev pub SolvedDocumentsArePaintedOnce : Type 0
SolvedDocumentsArePaintedOnce = (d : Document) (face : FaceValue) (styles : List Style) (tree : List Context)
    → IsDocument d → Solves d face tree → IsPaintedOnce d styles tree
