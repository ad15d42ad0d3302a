-- The corners of boxes, with what stands on the lines of more and more boxes.
use Rattle.std.proofs.Common.{◌≡◌, ℕ, zero, suc, ◌+◌, ◌<◌, ◌≤◌, false, List, [], length, refl, sym, ap, ◌∙◌, add-one, arith, slice_index_or}
use Rattle.std.proofs.lemmas.Grind.{elements}
use Rattle.lay_inlines.specs.declared.line_piece.LinePiece.{LinePiece}
use Rattle.lay_flow_boxes.specs.PlaceInputs.{PlaceInput}
use Rattle.lay_flow.specs.Blocks.FlowPlaces.{FlowPlacesValue}
use Rattle.lay_placements.specs.declared.corner.Corner.{Corner}
use Rattle.lay_placements.specs.Corners.{corner_at}
use Rattle.lay_placement.specs.AtomicCorners.{corner_among, has_atomic}
use Rattle.lay_placement.specs.BoxStandings.{corner_in_flow, corner_of_box}
use Rattle.lay_placement.specs.ContextPlaces.{ContextPlaces}
use Rattle.lay_placement.specs.OnLines.{AreOnLines, on_lines_at, on_lines_of, on_lines_to}
use Rattle.lay_placement.specs.Restings.{kept_corner}
use Rattle.lay_placement.proofs.AtomicSteps.{among_more, none_among}

one_more_box : (i : PlaceInput) (p : ContextPlaces) (n k : ℕ) (c : Corner) → corner_among (on_lines_of i p n) k (corner_among (on_lines_to i p n) k c) ≡ corner_among (on_lines_to i p (n + 1)) k c
one_more_box i p n k c = rw (add-one n) (sym (among_more (on_lines_to i p n) (on_lines_of i p n) k c))

-- with what stands on the lines of one box more
pub with_box : (i : PlaceInput) (p : ContextPlaces) (n k : ℕ) (more : List LinePiece) (c here next : Corner) → more ≡ on_lines_of i p n
    → here ≡ corner_among (on_lines_to i p n) k c → next ≡ corner_among more k here → next ≡ corner_among (on_lines_to i p (n + 1)) k c
with_box i p n k more c here next said so_far is =
    is ∙ ap (λ (ps : List LinePiece). corner_among ps k here) said ∙ ap (corner_among (on_lines_of i p n) k) so_far ∙ one_more_box i p n k c

none_to : (i : PlaceInput) (p : ContextPlaces) (all : List (List LinePiece)) (n k : ℕ) (c : Corner) → AreOnLines i p all → ((j : ℕ) → has_atomic (on_lines_at all j) ≡ false) → n ≤ length i.boxes
    → corner_among (on_lines_to i p n) k c ≡ c
none_to i p all zero k c are none le = refl
none_to i p all (suc n) k c are none le =
    among_more (on_lines_to i p n) (on_lines_of i p n) k c ∙ ap (corner_among (on_lines_of i p n) k) (none_to i p all n k c are none (omega (arith, le)))
    ∙ none_among (on_lines_of i p n) k c (ap has_atomic (sym (are.each n (omega (arith, le)))) ∙ none n)

nothing_kept : (k : ℕ) (c : Corner) → slice_index_or [] k c ≡ c
nothing_kept zero c = refl
nothing_kept (suc k) c = refl

-- without atomic boxes on lines nothing has to be kept of corners
pub none_kept : (i : PlaceInput) (p : ContextPlaces) (all : List (List LinePiece)) (k : ℕ) → AreOnLines i p all → ((j : ℕ) → has_atomic (on_lines_at all j) ≡ false) → kept_corner p.places [] k ≡ corner_of_box i p k
none_kept i p all k are none = nothing_kept k (corner_in_flow p.places k) ∙ sym (none_to i p all (length i.boxes) k (corner_in_flow p.places k) are none (omega arith))

pub kept_is : (places : FlowPlacesValue) (cs : List Corner) (k : ℕ) → k < length cs → kept_corner places cs k ≡ corner_at cs k
kept_is places cs k lt = grind (arith, elements, lt)
