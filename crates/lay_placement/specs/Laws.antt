-- A formatting context has a placement, and one alone. Relative positioning changes nothing of it but corners (CSS 2.2, 9.4.3). An
-- anchor in lines is on one of them (9.6). And what the baseline of its own box is (10.8.1 and 17.5.3), said once more without a
-- search.
use Rattle.std.specs.Prelude.{ℕ, ◌≡◌, ◌<◌, Bool, true, false, List, length, map, ◌∷◌, ◌++◌, Some, None}
use Rattle.std.specs.List.{list_any}
use Rattle.std.specs.Option.{is_some}
use Rattle.lay_units.specs.declared.length.Unit.{Unit as Length}
use Rattle.lay_units.specs.Lengths.{no_length}
use Rattle.lay_frag.specs.declared.frag.Frag.{Frag}
use Rattle.lay_box_tree.specs.Roles.{role_at}
use Rattle.lay_lines.specs.declared.row.Ended.{Ended}
use Rattle.lay_inlines.specs.LinePieces.{baseline_of}
use Rattle.lay_flow.specs.Blocks.FlowPlaces.{FlowPlacesValue}
use Rattle.lay_box_tree.specs.Containing.{container_of}
use Rattle.lay_box_tree.specs.ContextBoxes.{AreContextBoxes}
use Rattle.lay_flow_boxes.specs.ContextBlocks.{holds_lines, is_anchor}
use Rattle.lay_flow_boxes.specs.LineItems.{AreHeldByOthers}
use Rattle.lay_flow_boxes.specs.PlaceInputs.{PlaceInput}
use Rattle.lay_abspos.specs.declared.relative.offset.Offset.{Offset}
use Rattle.lay_placements.specs.declared.standing.Standing.{Standing}
use Rattle.lay_placements.specs.Corners.{no_corner}
use Rattle.lay_placements.specs.Placements.{Placement}
use Rattle.lay_placement.specs.Baselines.{baseline_in, first_baseline, first_baseline_to, last_baseline}
use Rattle.lay_placement.specs.ContextPlacements.{IsPlacement, placement_of}
use Rattle.lay_placement.specs.ContextPlaces.{ContextPlaces, HasPlaces, measures_of}
use Rattle.lay_placement.specs.StaticPositions.{anchor_line}

-- beside what it is given, a formatting context has one placement
abbrev pub OnePlacement : Type 0
OnePlacement = (i : PlaceInput) (p q : Placement) → AreContextBoxes i.boxes → IsPlacement i p → IsPlacement i q → p ≡ q

-- and it has one
abbrev pub SomePlacement : Type 0
SomePlacement = (i : PlaceInput) → AreContextBoxes i.boxes → (p : Placement) × IsPlacement i p

-- an anchor in a box that holds lines is on one of them
abbrev pub AnchorsAreOnLines : Type 0
AnchorsAreOnLines = (i : PlaceInput) (p : ContextPlaces) (k : ℕ) → AreContextBoxes i.boxes
    → AreHeldByOthers i.boxes → HasPlaces i p → k < length i.boxes
    → is_anchor (role_at i.boxes k) ≡ true → holds_lines (measures_of i p) p.shape.lefts (container_of i.boxes k) ≡ true
    → is_some (anchor_line i p k) ≡ true

abbrev pub any_seen : List Ended → Bool
any_seen rows = list_any (λ row. row.seen) rows

-- of lines of which one is seen and none behind it, that one has the last baseline
abbrev pub LastSeenLineGivesBaseline : Type 0
LastSeenLineGivesBaseline = (before after : List Ended) (row : Ended) → row.seen ≡ true → any_seen after ≡ false
    → last_baseline (before ++ row ∷ after) ≡ Some (record { 0 = baseline_of row })

-- and where none is seen, none has
abbrev pub UnseenLinesGiveNone : Type 0
UnseenLinesGiveNone = (rows : List Ended) → any_seen rows ≡ false → last_baseline rows ≡ None

-- of lines of which one is seen and none before it, that one has the first baseline
abbrev pub FirstSeenLineGivesBaseline : Type 0
FirstSeenLineGivesBaseline = (before after : List Ended) (row : Ended) → row.seen ≡ true → any_seen before ≡ false
    → first_baseline (before ++ row ∷ after) ≡ Some (record { 0 = baseline_of row })

-- of boxes of which one has a baseline and none before it, that one gives a cell its own
abbrev pub FirstBoxGivesBaseline : Type 0
FirstBoxGivesBaseline = (i : PlaceInput) (places : FlowPlacesValue) (k n : ℕ) (b : Length) → k < n
    → baseline_in i places k ≡ Some b → ((j : ℕ) → j < k → baseline_in i places j ≡ None)
    → first_baseline_to i places n ≡ Some b

-- boxes in the same places that are moved by so much
abbrev pub moved_by : List Offset → ContextPlaces → ContextPlaces
moved_by moves p = record { shape = p.shape; places = p.places; moves = moves }

-- a piece and a standing but for their corners
abbrev pub without_corner : Frag → Frag
without_corner f = record {
  kind = f.kind;
  node = f.node;
  part = f.part;
  rect = record { x = no_length; y = no_length; w = f.rect.w; h = f.rect.h };
}

abbrev pub standing_without_corner : Standing → Standing
standing_without_corner s = record { corner = no_corner; height = s.height; shift = s.shift }

-- Two ways to move the same boxes give the same own box, the same pieces but for their corners, and the same standings but for
-- theirs: so no offset changes a height, a baseline or what is painted.
pub record DifferInCorners (a b : Placement) : Type 0 where
  pub own : a.own ≡ b.own
  pub pieces : map without_corner a.pieces ≡ map without_corner b.pieces
  pub standings : map standing_without_corner a.standings ≡ map standing_without_corner b.standings

abbrev pub OffsetsChangeCornersAlone : Type 0
OffsetsChangeCornersAlone = (i : PlaceInput) (p : ContextPlaces) (m n : List Offset)
    → DifferInCorners (placement_of i (moved_by m p)) (placement_of i (moved_by n p))
