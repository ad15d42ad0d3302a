-- The placement of a formatting context of one box.
use Rattle.std.proofs.Common.{◌≡◌, ℕ, zero, suc, ◌<◌, Bool, true, false, pos, List, [], ◌∷◌, length, slice_index_or, slice_get, IfSome, Option, None, refl, sym, ap, ◌∙◌, arith, if◌then◌else◌}
use Rattle.std.proofs.lemmas.Int.{ints}
use Rattle.lay_units.specs.declared.length.Unit.{Unit as Length}
use Rattle.lay_units.specs.Units.{IsNear}
use Rattle.lay_units.specs.Lengths.{no_length}
use Rattle.lay_frag.specs.declared.frag.Frag.{Frag}
use Rattle.lay_box_tree.specs.declared.box_tree.BoxNode.{BoxNode}
use Rattle.lay_box_tree.specs.BoxColumns.{box_styles}
use Rattle.lay_box_tree.specs.InlineParts.{AreInlineParts, inline_part, no_part}
use Rattle.lay_flow.specs.declared.blocks.flow_box.BlockBox.{BlockBox}
use Rattle.lay_flow.specs.Blocks.Boxes.{box_at}
use Rattle.lay_flow.specs.Blocks.Lengths.{length_at}
use Rattle.lay_sizes.specs.BoxSizes.{border_width}
use Rattle.lay_sizes.specs.declared.own_boxes.OwnBox.{OwnBox}
use Rattle.lay_sizes.specs.OwnBoxes.{OwnBoxFits, own_box}
use Rattle.lay_sizes.specs.SizeColumns.{sizes_at}
use Rattle.lay_box_tree.specs.ContextBoxes.{is_inner}
use Rattle.lay_abspos.specs.Relative.Moves.{HasMoves, move_at, move_of}
use Rattle.lay_abspos.specs.Relative.RelativeOffsets.{no_offset}
use Rattle.lay_flow_boxes.specs.ContextBlocks.{AreFlowBoxesOf, HasLefts, flow_box_of, left_of_box, own_block}
use Rattle.lay_flow_boxes.specs.FlowShapes.{measures_in}
use Rattle.lay_flow_boxes.specs.PlaceInputs.{PlaceInput}
use Rattle.lay_placements.specs.declared.standing.Standing.{Standing}
use Rattle.lay_placements.specs.Corners.{no_corner}
use Rattle.lay_placements.specs.NearPieces.{IsRectNear}
use Rattle.lay_placements.specs.PieceParts.{with_pieces}
use Rattle.lay_placements.specs.Placements.{Placement, PlacementFits}
use Rattle.lay_placements.specs.Standings.{IsStandingNear, standing_at}
use Rattle.lay_placement.specs.AtomicCorners.{corner_among}
use Rattle.lay_style.specs.ComputedStyle.{style_at}
use Rattle.lay_placement.specs.Baselines.{is_of_cell, is_visible, own_baseline}
use Rattle.lay_placement.specs.BoxStandings.{border_height, corner_in_flow, corner_of_box, moved_corner, standing_of_box, standings_to}
use Rattle.lay_placement.specs.ContextPieces.{piece_of_box, pieces_of_box, pieces_to}
use Rattle.lay_placement.specs.ContextPlacements.{IsPlacement}
use Rattle.lay_placement.specs.ContextPlaces.{ContextPlaces, HasPlaces}
use Rattle.lay_placement.specs.OnLines.{on_lines_to}
use Rattle.lay_placement.specs.OneBox.{empty_height, only_piece, only_standing}
use Rattle.lay_placement.proofs.OneFlow.{at_first, one_block_flow, only, only_places}

abbrev no_baseline : Option Length
no_baseline = None

by_cell : (cell visible : Bool) → (if cell then no_baseline else (if visible then no_baseline else no_baseline)) ≡ no_baseline
by_cell true visible = refl
by_cell false true = refl
by_cell false false = refl

abbrev none_alone : List (Option ℕ)
none_alone = None ∷ []

none_at : (k : ℕ) → slice_index_or none_alone k None ≡ None
none_at zero = refl
none_at (suc k) = refl

-- the box with its piece, at its own corner
abbrev pub placement_with : List BoxNode → OwnBox → Placement
placement_with boxes o = record { own = o; pieces = only_piece boxes o.width (only_standing o.height) ∷ []; standings = only_standing o.height ∷ [] }

-- in lists of one entry
pub placed : (boxes : List BoxNode) (o : OwnBox) (f : Frag) (s : Standing) (pieces : List Frag) (standings : List Standing) → s ≡ only_standing o.height → f ≡ only_piece boxes o.width s → pieces ≡ f ∷ [] → standings ≡ s ∷ []
    → record { own = o; pieces = pieces; standings = standings } ≡ placement_with boxes o
placed boxes o f s pieces standings stands is pieces_are standings_are =
    let piece = is ∙ ap (only_piece boxes o.width) stands in
    let all = pieces_are ∙ ap (λ (f : Frag). f ∷ []) piece in
    let column = standings_are ∙ ap (λ (s : Standing). s ∷ []) stands in
    λ n. record { own = o; pieces = all n; standings = column n }

pub is_near : (boxes : List BoxNode) (o : OwnBox) → OwnBoxFits o → PlacementFits (placement_with boxes o)
is_near boxes o fits =
    let zero_near : IsNear (pos 0) = (omega (arith, ints), omega (arith, ints)) in
    let height_near : IsNear o.height.0 = (omega (arith, ints, fits.height.0), omega (arith, ints, fits.height.1)) in
    let width_near : IsNear o.width.0 = (omega (arith, ints, fits.width.0), omega (arith, ints, fits.width.1)) in
    let p : Placement = placement_with boxes o in
    record {
      own = fits;
      pieces = at_first (λ k. IfSome (slice_get p.pieces k) (λ f. IsRectNear f.rect)) (record { x = zero_near; y = zero_near; w = width_near; h = height_near });
      few = omega arith;
      standings = at_first (λ k. IsStandingNear (standing_at p.standings k)) (record { corner = record { x = zero_near; y = zero_near }; height = height_near; shift = zero_near });
    }

module _ (i : PlaceInput) (one : length i.boxes ≡ 1) (own : is_inner i.boxes 0 ≡ false) where
  each_first : (P : ℕ → Type 0) → P 0 → (k : ℕ) → k < length i.boxes → P k
  each_first P first k lt = at_first P first k (omega (arith, lt, one))

  abbrev own_blocks : BlockBox
  own_blocks = own_block i.boxes i.sizes i.own_height (no_length ∷ []) 0

  abbrev places : ContextPlaces
  places = record {
    shape = record { parts = inline_part i.boxes 0 ∷ []; lefts = no_length ∷ []; flow_boxes = only own_blocks };
    places = only_places own_blocks;
    moves = no_offset ∷ [];
  }

  are_parts : AreInlineParts i.boxes places.shape.parts
  are_parts = record { count = sym one; each = each_first (λ k. slice_index_or places.shape.parts k no_part ≡ inline_part i.boxes k) refl }

  has_lefts : HasLefts i.boxes i.sizes i.inner places.shape.lefts
  has_lefts = record { count = sym one; each = each_first (λ k. length_at places.shape.lefts k ≡ (left_of_box i.boxes i.sizes i.inner places.shape.lefts k).0) refl }

  are_flow_boxes : AreFlowBoxesOf (measures_in i places.shape.parts) i.own_height places.shape.lefts places.shape.flow_boxes
  are_flow_boxes = record {
    count = sym one;
    each = each_first (λ k. box_at places.shape.flow_boxes k ≡ flow_box_of (measures_in i places.shape.parts) i.own_height places.shape.lefts k) (rw (one, own) refl);
  }

  has_moves : HasMoves i.boxes i.sizes places.moves
  has_moves = record {
    formers = None ∷ [];
    are_formers = record { count = sym one; each = λ k lt. rw (none_at k) (λ p was. omega (arith, was.before, lt, one)) };
    count = sym one;
    each = each_first (λ k. move_at places.moves k ≡ move_of i.boxes i.sizes (None ∷ []) places.moves k) refl;
  }

  has_places : HasPlaces i places
  has_places = record {
    is_shape = record { are_parts = are_parts; has_lefts = has_lefts; are_flow_boxes = are_flow_boxes };
    is_flow = one_block_flow own_blocks;
    has_moves = has_moves;
  }

  abbrev height : Length
  height = record { 0 = empty_height (sizes_at i.sizes 0) i.own_height }

  baseline_is : own_baseline i places.places ≡ None
  baseline_is = rw one (by_cell (is_of_cell i.boxes) (is_visible (style_at (box_styles i.boxes) 0).overflow))

  -- no line puts it elsewhere
  corner_is : corner_of_box i places 0 ≡ no_corner
  corner_is = ap (λ (n : ℕ). corner_among (on_lines_to i places n) 0 (corner_in_flow places.places 0)) one

  height_is : border_height i places 0 ≡ height
  height_is = rw own refl

  standing_is : standing_of_box i places 0 ≡ only_standing height
  standing_is = λ n. record { corner = moved_corner no_offset (corner_is n); height = height_is n; shift = no_length }

  standings_are : standings_to i places (length i.boxes) ≡ only_standing height ∷ []
  standings_are = ap (standings_to i places) one ∙ ap (λ (s : Standing). s ∷ []) standing_is

  abbrev piece : Standing → Frag
  piece s = only_piece i.boxes (record { 0 = border_width (sizes_at i.sizes 0) }) s

  no_more_pieces : pieces_of_box i places 0 ≡ piece_of_box i places 0 ∷ []
  no_more_pieces = rw own refl

  pieces_are : pieces_to i places (length i.boxes) ≡ piece (only_standing height) ∷ []
  pieces_are = ap (pieces_to i places) one ∙ ap (with_pieces []) no_more_pieces ∙ ap (λ (s : Standing). piece s ∷ []) standing_is

  -- what is answered is its placement
  pub is_placement : (answer : Placement) (o : OwnBox) → answer ≡ placement_with i.boxes o → o ≡ own_box (sizes_at i.sizes 0) height None → IsPlacement i answer
  is_placement answer o is own_is = record {
    places = places;
    has_places = has_places;
    answer_is = is ∙ ap (placement_with i.boxes) own_is ∙ λ n. record { own = own_box (sizes_at i.sizes 0) height (sym baseline_is n); pieces = sym pieces_are n; standings = sym standings_are n };
  }
