-- The pieces of a table are of nodes of the document, where its boxes are, and the pieces of its anonymous cells.
use Rattle.std.proofs.Common.{ℕ, zero, suc, ◌<◌, ◌≤◌, length, sym, subst, arith}
use Rattle.lay_doc.specs.Document.{Document}
use Rattle.lay_box_tree.specs.ContextBoxes.{is_inner}
use Rattle.lay_placements.specs.InnerPieces.{inner_pieces_at}
use Rattle.lay_placements.specs.Placements.{Placement}
use Rattle.lay_placements.specs.Splicing.{spliced}
use Rattle.lay_table_grid.specs.TableBoxes.{kind_at}
use Rattle.lay_table.specs.TableInputs.{TableInput}
use Rattle.lay_table.specs.declared.pieces.Extent.{Extent}
use Rattle.lay_table.specs.declared.pieces.Extent.TheVariants.{Own, Rows, Nothing}
use Rattle.lay_table.specs.TablePieces.{extent_by_kind, inner_width, pieces_by, table_pieces_of_box, pieces_to}
use Rattle.lay_table.specs.TablePlacements.{IsTablePlacement}
use Rattle.lay_table.specs.TableStandings.{TablePlaces, standing_of}
use Rattle.lay_hit.proofs.PaintedLemmas.Each.{Each, each-if}
use Rattle.lay_hit.proofs.PaintedLemmas.FlowPieces.{AreInner, Is, at-place, box-piece, with-pieces}
use Rattle.lay_hit.proofs.PaintedLemmas.NodeBoxes.{IsBoxOf}

module _ (d : Document) (i : TableInput) (p : TablePlaces) (boxes : Each (IsBoxOf d.nodes) i.boxes) (inner : AreInner d i.pieces) where
  by-extent : (k : ℕ) → k < length i.boxes → (x : Extent) → Each (Is d) (pieces_by i p k x)
  by-extent k lt Own = (box-piece d i.boxes k 0 _ boxes lt, tt)
  by-extent k lt Rows = (box-piece d i.boxes k 0 _ boxes lt, tt)
  by-extent k lt Nothing = tt

  of-box : (k : ℕ) → k < length i.boxes → Each (Is d) (table_pieces_of_box i p k)
  of-box k lt =
      each-if (Is d) (is_inner i.boxes k) (spliced (inner_width i k) (standing_of i p k) (inner_pieces_at i.pieces k)) (pieces_by i p k (extent_by_kind (kind_at i.boxes k)))
      (at-place d _ _ (inner_pieces_at i.pieces k) (inner k)) (by-extent k lt (extent_by_kind (kind_at i.boxes k)))

  up-to : (n : ℕ) → n ≤ length i.boxes → Each (Is d) (pieces_to i p n)
  up-to zero le = tt
  up-to (suc k) le = with-pieces d (pieces_to i p k) (table_pieces_of_box i p k) (up-to k (omega (arith, le))) (of-box k (omega (arith, le)))

pub table-pieces : (d : Document) (i : TableInput) (answer : Placement) → IsTablePlacement i answer → Each (IsBoxOf d.nodes) i.boxes → AreInner d i.pieces → Each (Is d) answer.pieces
table-pieces d i answer h boxes inner =
    subst (λ (a : Placement). Each (Is d) a.pieces) (sym h.answer_is) (up-to d i h.places boxes inner (length i.boxes) (omega arith))
