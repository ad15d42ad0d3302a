-- What is known after each step of the pass.
use Rattle.std.proofs.Common.{◌≡◌, ℕ, ◌+◌, ◌<◌, ◌≤◌, ◌==◌, ◌&&◌, ◌||◌, not, nat_lt, Bool, true, false, ℤ, pos, ◌+ℤ◌, ◌-ℤ◌, List, [], ◌∷◌, length, refl, sym, ap, ◌∙◌, arith, inl, inr, subst}
use Rattle.std.proofs.lemmas.Bool.{cases_lt}
use Rattle.lay_flow.specs.declared.blocks.flow_box.FlowBox.{FlowBox}
use Rattle.lay_flow.specs.Blocks.Boxes.{box_at, parent_at, parents_of}
use Rattle.lay_flow.proofs.BlocksLemmas.BoxTrees.{parent_before}
use Rattle.lay_units.specs.declared.length.Unit.{Unit as Length}
use Rattle.lay_units.specs.Units.{IsBoxSize, IsUsed}
use Rattle.lay_margins.specs.StrutValue.{StrutValue}
use Rattle.lay_margins.specs.Collapse.{Holds, collapse}
use Rattle.lay_lines.specs.Lines.{AreLines}
use Rattle.lay_floats.specs.FloatPlace.{IsFloatPlace}
use Rattle.lay_floats.specs.SolidPlace.{IsSolidPlace}
use Rattle.lay_floats.specs.Within.{IsWithin}
use Rattle.lay_doc.specs.Tree.{IsTree}
use Rattle.lay_flow.specs.Blocks.Lengths.{length_at}
use Rattle.lay_flow.specs.Blocks.Children.{flag_at}
use Rattle.lay_flow.specs.Blocks.MarginRuns.{block_at, parts_tops, joins_bottom, may_collapse_through, may_join_bottoms}
use Rattle.lay_flow.specs.Blocks.BlockLayout.{BlockLayout, Extents}
use Rattle.lay_flow.specs.Blocks.BlockPositions.{border_height, is_placed, is_solid, held_end, held_height}
use Rattle.lay_flow.specs.Blocks.BlockFloats.{Spot, content_of, line_content_of, lines_at, shape_at, place_at, floats_before, float_request, solid_request, ceiling}
use Rattle.lay_flow.specs.Pass.State.{PassState, IsAt, Settled, columns_of, Clearances, clearances_of, ended_run}
use Rattle.lay_flow.specs.Blocks.FlowBoxes.{AreFlowBoxes}
use Rattle.lay_flow.specs.Pass.Bounds.{IsStartNear, IsMarkNear, is_barred, reach}
use Rattle.lay_flow.specs.Pass.Struts.{StrutFits}
use Rattle.lay_flow.specs.Pass.Placed.{Placing, PlacesTo}
use Rattle.lay_flow.specs.Pass.Knows.{Knows, IsReady, MayBe, IsCandidate, HaveNoExtent, AreClears, AreDecided, AreExtentsKept, ArePlacesKept}
use Rattle.lay_flow.proofs.BlocksLemmas.FlowBoxFacts.{block_fits}
use Rattle.lay_flow.proofs.BlocksLemmas.ContentHeights.{content_margin, held_between, held_same, same_border_height}
use Rattle.lay_flow.proofs.BlocksLemmas.BlockKinds.{joined_passes, joins_flow, placed_none, solid_placed}
use Rattle.lay_flow.proofs.Openings.{WithMargin, pushed, opened, opened_wall}
use Rattle.lay_flow.proofs.Closings.{passes_is, joined_here, code_open, not_hanging, started, close_passing, close_joined, close_parted, mark_parted, reach_parted}
use Rattle.lay_flow.proofs.ContentEnds.{bottom_joined, bottom_parted, height_there}
use Rattle.lay_flow.proofs.PassFits.{fits_opened, fits_parting, fits_started, fits_through, fits_joined, fits_parted, marks_near, end_near, below_near, inset_height, later_near, edge_later_near, run_later_near, above_near}
use Rattle.lay_flow.proofs.RunReach.{RunEnds}
use Rattle.lay_flow.proofs.SoFar.{Wrote}
use Rattle.lay_flow.proofs.BlocksLemmas.Truths.{true_false, true_or, low_yes}
use Rattle.lay_flow.specs.Blocks.Weights.{weight}
use Rattle.lay_flow.proofs.BlocksLemmas.WeightFacts.{weight_up, weight_over}
use Rattle.lay_flow.specs.Blocks.MarginPlace.{margin_place}

-- boxes stay placed where the marks before them are the same
pub placed_kept : (boxes : List FlowBox) (old new : List Length) (now : Placing) (n : ℕ) → IsTree (parents_of boxes) → n ≤ length boxes
    → PlacesTo boxes old now n → ((j : ℕ) → j < n → length_at new j ≡ length_at old j) → PlacesTo boxes new now n
placed_kept boxes old new now n tree within was same = record {
  places_length = was.places_length;
  extents_length = was.extents_length;
  floats_are = was.floats_are;
  within = was.within;
  near = was.near;
  root = was.root;
  float = λ k side positive lt e.
      let mine = same k lt in
      let up = parent_before boxes tree k positive (omega (arith, lt, within)) in
      let over = same (parent_at boxes k) (omega (arith, up, lt)) in
      let top : ceiling boxes new k ≡ ceiling boxes old k = rw (mine, over) refl in
      subst (λ (v : ℤ). IsFloatPlace (floats_before boxes now.places k) (float_request (shape_at boxes k) side v) (place_at now.places k).x.0 (place_at now.places k).y.0) (sym top) (was.float k side positive lt e);
  solid = λ k positive lt e. subst (λ (v : ℤ). IsSolidPlace (floats_before boxes now.places k) (solid_request (shape_at boxes k) v) (place_at now.places k).x.0 (place_at now.places k).y.0) (sym (same k lt)) (was.solid k positive lt e);
  extent = λ k positive lt e. subst (λ (v : ℤ). length_at now.extents k ≡ (place_at now.places k).y.0 -ℤ v +ℤ (shape_at boxes k).height.0) (sym (same k lt)) (was.extent k positive lt e);
  low = λ k positive lt e. subst (λ (v : ℤ). IsWithin (reach (weight boxes n)) (v +ℤ length_at now.extents k)) (sym (same k lt)) (was.low k positive lt e);
  other = was.other;
  lines = λ k lt e. subst (λ (v : ℤ). AreLines (line_content_of (box_at boxes k).kind) (content_of (box_at boxes k).kind).left (content_of (box_at boxes k).kind).right (v +ℤ (block_at boxes k).edge_top.0) (floats_before boxes now.places k) (lines_at now.places k)) (sym (same k lt)) (was.lines k lt e);
  lines_extent = λ k lt e. subst (λ (v : ℤ). length_at now.extents k ≡ (lines_at now.places k).end.0 -ℤ (v +ℤ (block_at boxes k).edge_top.0)) (sym (same k lt)) (was.lines_extent k lt e);
  no_lines_else = was.no_lines_else;
}

-- extents that may be at last when more boxes are placed
pub may_before : (boxes : List FlowBox) (old new : Placing) (extents : Extents) → length old.places ≤ length new.places → AreExtentsKept boxes (length old.places) old.extents new.extents
    → MayBe boxes (length new.places) new.extents extents → MayBe boxes (length old.places) old.extents extents
may_before boxes old new extents le kept may_be j lt placed = may_be j (omega (arith, lt, le)) placed ∙ kept j (λ s. lt)

pub no_extents_kept : (boxes : List FlowBox) (old new : List Length) (n : ℕ) → AreExtentsKept boxes n old new → HaveNoExtent boxes old → HaveNoExtent boxes new
no_extents_kept boxes old new n kept was j flow = kept j (λ placed. absurd (true_false (is_placed (block_at boxes j).inside) placed flow)) ∙ was j flow

pub places_before : (old new places : List Spot) → length old ≤ length new → ArePlacesKept old new → ArePlacesKept new places → ArePlacesKept old places
places_before old new places le kept are j lt = are j (omega (arith, lt, le)) ∙ kept j lt

-- what was decided stays so when more boxes are placed
pub decided_placed : (boxes : List FlowBox) (decided : Clearances) (old new : Placing) (m : ℕ)
    → length old.places ≤ length new.places → AreExtentsKept boxes (length old.places) old.extents new.extents → ArePlacesKept old.places new.places
    → AreDecided boxes decided old m → AreDecided boxes decided new m
decided_placed boxes decided old new m le kept same was k positive lt none y places may_be candidate are =
    was k positive lt none y places (may_before boxes old new y.extents le kept may_be) candidate (places_before old.places new.places places le same are)

-- the run was begun by clearance of a child of p
barred_same : (boxes : List FlowBox) (y : BlockLayout) (now : PassState) (p m : ℕ) → m ≤ length boxes → AreClears boxes (clearances_of now) m
    → IsCandidate boxes y (clearances_of now) m → (nat_lt now.first m && flag_at y.runs.clears now.first && parent_at boxes now.first == p) ≡ is_barred boxes now p
barred_same boxes y now p m within are candidate = elim (cases_lt now.first m) [
  | inl lt ↦ (let a = candidate.clears now.first lt in let l = are.clears_length in
      let t : nat_lt now.first m ≡ true = grind (arith, lt) in
      let u : nat_lt now.first (length now.clears) ≡ true = lower now.first (length now.clears) (omega (arith, lt, within, l)) in
      rw (t, u, a) refl)
  | inr ge ↦ (let f = are.later now.first ge in
      let t : nat_lt now.first m ≡ false = grind (arith, ge) in
      rw (t, f) (sym (nothing (nat_lt now.first (length now.clears)) (parent_at boxes now.first == p))))
]
  where
    lower : (a b : ℕ) → a < b → nat_lt a b ≡ true
    lower a b lt = grind (arith, lt)

    nothing : (b c : Bool) → (b && false && c) ≡ false
    nothing true c = refl
    nothing false c = refl

module _ (boxes : List FlowBox) (tree : IsTree (parents_of boxes)) (now : PassState) (placing : Placing) where
  pub knows_opened : (k : ℕ) (strut : StrutValue) → 0 < k → k < length boxes → parts_tops boxes k ≡ false → IsReady boxes now placing k → StrutFits strut
      → WithMargin now.strut strut (block_at boxes k).margin_top.0
      → Knows boxes (pushed now strut) placing (margin_place k (k + 1))
  knows_opened k strut positive within plain was fits holds = record {
    fits = fits_opened boxes tree now k strut within plain was.fits fits;
    near = edge_later_near (weight boxes k) (weight boxes (k + 1)) now.start (weight_over boxes k (k + 1) (omega arith)) was.near;
    is_at = λ y may_be candidate. opened boxes y candidate.is_layout tree k positive within now strut plain holds (was.is_before y may_be candidate);
    no_extents = was.no_extents;
    placed = was.placed;
    early = was.early;
    are_clears = was.are_clears;
    decided = was.decided;
  }

  pub knows_parting : (k : ℕ) (marks : List Length) (end start : ℤ) (strut strut' : StrutValue) → AreFlowBoxes boxes → 0 < k → k < length boxes → parts_tops boxes k ≡ true → IsReady boxes now placing k
      → WithMargin now.strut strut (block_at boxes k).margin_top.0 → RunEnds (pushed now strut) end → IsUsed (end -ℤ now.start)
      → Settled boxes (ended_run (columns_of now) (k + 1) end) now.marks marks → start ≡ end +ℤ (block_at boxes k).edge_top.0 → StrutFits strut' → Holds strut' []
      → Knows boxes (record now { marks = marks; start = start; strut = strut'; first = k + 1; hangs = false }) placing (margin_place k (k + 1))
  knows_parting k marks end start strut strut' input positive within parting was holds ends ended settled starts fits' empty =
      let f = was.fits.first_most in
      let near = below_near (weight boxes k) (weight boxes (k + 1)) end (block_at boxes k).edge_top.0 start (end_near (weight boxes now.first) (weight boxes k) now.start end was.fits.start_near ended (weight_up boxes now.first k f)) (inset_height (block_at boxes k).edge_top.0 (block_fits boxes input k within).edge_top) starts (weight_over boxes k (k + 1) (omega arith)) in
      record {
        fits = fits_parting boxes tree now k marks end start strut' within was.fits settled ended near fits';
        near = near;
        is_at = λ y may_be candidate.
            let before = was.is_before y may_be candidate in
            opened_wall boxes y candidate.is_layout tree k positive within now strut end parting holds ends before marks strut' start empty settled
            (starts ∙ ap (λ (v : ℤ). v +ℤ (block_at boxes k).edge_top.0) (sym (settled.stands k f (omega arith) (before.so_far.fresh k (omega arith)))));
        no_extents = was.no_extents;
        placed = let early = was.early in placed_kept boxes now.marks marks placing (length placing.places) tree (omega (arith, f, early, within)) was.placed (λ j lt. settled.before j (omega (arith, lt, early)));
        early = let early = was.early in omega (arith, f, early);
        are_clears = was.are_clears;
        decided = was.decided;
      }

  module _ (p m : ℕ) (input : AreFlowBoxes boxes) (positive : 0 < p) (ends : m < length boxes → parent_at boxes m < p) (was : Knows boxes now placing (margin_place p m)) where
    places_within : length placing.places ≤ length boxes
    places_within = let early = was.early in let few = was.fits.first_most in let within = was.fits.within in omega (arith, early, few, within)

    pub knows_started : (start : ℤ) → may_collapse_through (block_at boxes p) ≡ true → now.hangs ≡ true → now.first ≡ p → ((ms : List ℤ) → Holds now.strut ms → start ≡ now.start -ℤ collapse ms) → IsUsed (now.start -ℤ start)
        → Knows boxes (record now { start = start; hangs = false }) placing (margin_place p m)
    knows_started start may hangs first value collapsed = record {
      fits = fits_started boxes tree now p m positive was.fits start hangs collapsed;
      near = let lt = was.fits.parent in run_later_near (weight boxes now.first) (weight boxes m) start (weight_over boxes now.first m (omega (arith, first, lt))) (above_near (weight boxes now.first) now.start start (was.fits.edge_near hangs) collapsed);
      is_at = λ y may_be candidate. started boxes y candidate.is_layout tree now p m positive (was.is_at y may_be candidate) ends start may hangs first value;
      no_extents = was.no_extents;
      placed = was.placed;
      early = was.early;
      are_clears = was.are_clears;
      decided = was.decided;
    }

    pub knows_through : (marks heights : List Length) (flags : List Bool) (end : ℤ) (strut' : StrutValue) → may_collapse_through (block_at boxes p) ≡ true → now.first ≤ p → (now.hangs ≡ true → now.first < p)
        → RunEnds now end → IsUsed (end -ℤ now.start)
        → Wrote length_at now.marks marks p end → Wrote length_at now.heights heights p (pos 0) → Wrote flag_at now.through flags p true
        → StrutFits strut' → WithMargin now.strut strut' (block_at boxes p).margin_bottom.0
        → Knows boxes (record now { marks = marks; heights = heights; through = flags; strut = strut' }) placing (margin_place (parent_at boxes p) m)
    knows_through marks heights flags end strut' may waits below reach ended wrote_mark wrote_height wrote_flag fits' holds = record {
      fits = fits_through boxes tree now p m positive was.fits marks heights flags end strut' waits wrote_mark wrote_height wrote_flag ended fits';
      near = was.near;
      is_at = λ y may_be candidate. close_passing boxes y candidate.is_layout tree now p m positive (was.is_at y may_be candidate) ends marks heights flags strut' end may waits below reach wrote_mark wrote_height wrote_flag holds;
      no_extents = was.no_extents;
      placed = placed_kept boxes now.marks marks placing (length placing.places) tree places_within was.placed (λ j lt. wrote_mark.other j (λ same. let early = was.early in omega (arith, lt, early, same, waits)));
      early = was.early;
      are_clears = was.are_clears;
      decided = was.decided;
    }

    inner : p < length boxes
    inner = let a = was.fits.parent in let b = was.fits.within in omega (arith, a, b)

    -- a box that isn't collapsed through, and whose bottom margin may adjoin that of its last child, has its mark
    joined_before : may_join_bottoms (block_at boxes p) ≡ true → (may_collapse_through (block_at boxes p) ≡ true → p < now.first) → p < now.first
    joined_before may settled = elim (cases_lt p now.first) [
      | inl low ↦ low
      | inr high ↦ settled (joined_passes boxes p (was.fits.unparted p high was.fits.parent) may)
    ]

    module _ (y : BlockLayout) (may_be : MayBe boxes (length placing.places) placing.extents y.extents) (candidate : IsCandidate boxes y (clearances_of now) m) where
      at : IsAt boxes y now (margin_place p m)
      at = was.is_at y may_be candidate

      stands : (may_collapse_through (block_at boxes p) ≡ true → p < now.first) → flag_at y.runs.through p ≡ false
      stands settled = passes_is boxes y candidate.is_layout tree now p m positive at ends
          ∙ true_or (may_collapse_through (block_at boxes p)) ((may_collapse_through (block_at boxes p) && not (nat_lt p now.first)) ≡ false)
          (λ t. let low = low_yes p now.first (settled t) in rw (t, low) refl)
          (λ f. rw f refl)

      joins_here : joins_bottom boxes y.runs p ≡ (flag_at y.runs.through p || (may_join_bottoms (block_at boxes p) && not (is_barred boxes now p)))
      joins_here = joined_here boxes y candidate.is_layout tree now p m positive at ends
          ∙ ap (λ (b : Bool). flag_at y.runs.through p || (may_join_bottoms (block_at boxes p) && not b)) (barred_same boxes y now p m was.fits.within was.are_clears candidate)

    pub knows_joined : (heights : List Length) (mark height start : ℤ) (strut' : StrutValue) → may_join_bottoms (block_at boxes p) ≡ true → is_barred boxes now p ≡ false → (may_collapse_through (block_at boxes p) ≡ true → p < now.first)
        → mark ≡ length_at now.marks p → IsBoxSize height → height ≡ border_height (block_at boxes p) (length_at placing.extents p) (now.start -ℤ (mark +ℤ (block_at boxes p).edge_top.0))
        → start ≡ mark +ℤ height → Wrote length_at now.heights heights p height
        → StrutFits strut' → WithMargin now.strut strut' (block_at boxes p).margin_bottom.0
        → Knows boxes (record now { heights = heights; start = start; strut = strut'; hangs = false }) placing (margin_place (parent_at boxes p) m)
    knows_joined heights mark height start strut' may unbarred settled marked size is_height starts wrote fits' holds = record {
      fits = let f = fits_joined boxes tree now p m positive was.fits heights height start strut' near size wrote fits' in record {
        parent = f.parent;
        within = f.within;
        first_least = f.first_least;
        first_most = f.first_most;
        marks_length = f.marks_length;
        heights_length = f.heights_length;
        through_length = f.through_length;
        start_near = f.start_near;
        edge_near = λ t. absurd (true_false false t refl);
        mark_near = f.mark_near;
        strut_fits = f.strut_fits;
        unparted = f.unparted;
        sized = f.sized;
      };
      near = later_near (weight boxes now.first) (weight boxes m) start (weight_up boxes now.first m was.fits.first_most) near;
      is_at = λ y may_be candidate.
          let at = there y may_be candidate in
          let off = not_hanging boxes y candidate.is_layout tree now p m positive (was.is_at y may_be candidate) ends before in
          record {
            so_far = at.so_far;
            in_run = record {
              gathered = at.in_run.gathered;
              strut_holds = at.in_run.strut_holds;
              start_is = λ _. at.in_run.start_is off;
              hanging = λ t. absurd (true_false false t refl);
            };
          };
      no_extents = was.no_extents;
      placed = was.placed;
      early = was.early;
      are_clears = was.are_clears;
      decided = was.decided;
    }
      where
        before : p < now.first
        before = joined_before may settled

        near : IsStartNear (weight boxes now.first) start
        near = below_near (weight boxes p) (weight boxes now.first) mark height start (subst (IsMarkNear (weight boxes p)) (sym marked) (was.fits.mark_near p)) size starts (weight_over boxes p now.first before)

        there : (y : BlockLayout) → MayBe boxes (length placing.places) placing.extents y.extents → IsCandidate boxes y (clearances_of now) m
            → IsAt boxes y (record now { heights = heights; start = start; strut = strut' }) (margin_place (parent_at boxes p) m)
        there y may_be candidate =
            let is = candidate.is_layout in
            let at = was.is_at y may_be candidate in
            let truth = stands y may_be candidate settled in
            let none_of = placed_none (block_at boxes p).inside (joins_flow (block_at boxes p) may) in
            let ext : is_solid (block_at boxes p).inside ≡ true → length_at placing.extents p ≡ length_at y.extents.depths p = λ solid. absurd (true_false (is_solid (block_at boxes p).inside) solid none_of.1) in
            let joined : joins_bottom boxes y.runs p ≡ true = joins_here y may_be candidate ∙ rw (truth, may, unbarred) refl in
            let mark_is = marked ∙ at.so_far.marked.stands p before (code_open boxes y is tree now p m positive at ends) truth in
            let bottom = content_margin boxes y p none_of.0 ∙ bottom_joined boxes y is tree now p m positive at ends joined before in
            let from = at.in_run.start_is (not_hanging boxes y is tree now p m positive at ends before) in
            let height_is = height_there boxes y is tree now p m positive at ends height mark now.start truth mark_is (from ∙ sym bottom) (is_height ∙ same_border_height (block_at boxes p) (length_at placing.extents p) (length_at y.extents.depths p) (now.start -ℤ (mark +ℤ (block_at boxes p).edge_top.0)) ext) in
            let wrote_height : Wrote length_at now.heights heights p (length_at y.places.heights p) = subst (λ (v : ℤ). Wrote length_at now.heights heights p v) height_is wrote in
            close_joined boxes y is tree now p m positive at ends heights strut' start truth joined before wrote_height
            (starts ∙ (λ i. marked i +ℤ (sym wrote.here) i)) holds

    pub knows_parted : (marks heights : List Length) (placing' : Placing) (end mark height start : ℤ) (strut' : StrutValue) → (may_join_bottoms (block_at boxes p) && not (is_barred boxes now p)) ≡ false → (may_collapse_through (block_at boxes p) ≡ true → p < now.first)
        → RunEnds now end → IsUsed (end -ℤ now.start)
        → Settled boxes (ended_run (columns_of now) m end) now.marks marks
        → PlacesTo boxes marks placing' m → AreExtentsKept boxes (length placing.places) placing.extents placing'.extents → ArePlacesKept placing.places placing'.places
        → mark ≡ length_at marks p → (is_solid (block_at boxes p).inside ≡ false → IsBoxSize height) → height ≡ border_height (block_at boxes p) (length_at placing'.extents p) (held_height (block_at boxes p).inside (length_at placing'.extents p) (end -ℤ (mark +ℤ (block_at boxes p).edge_top.0)))
        → start ≡ mark +ℤ height → Wrote length_at now.heights heights p height
        → StrutFits strut' → Holds strut' ((block_at boxes p).margin_bottom.0 ∷ [])
        → Knows boxes (record now { marks = marks; heights = heights; start = start; strut = strut'; first = m; hangs = false }) placing' (margin_place (parent_at boxes p) m)
    knows_parted marks heights placing' end mark height start strut' may settled reaches ended settles placed kept same marked size is_height starts wrote fits' holds = record {
      fits = fits_parted boxes tree now p m positive was.fits marks heights end height start strut' settles ended start_near size wrote fits';
      near = start_near;
      is_at = there;
      no_extents = no_extents_kept boxes placing.extents placing'.extents (length placing.places) kept was.no_extents;
      placed = let e = placed.places_length in subst (λ (n : ℕ). PlacesTo boxes marks placing' n) (sym e) placed;
      early = let e = placed.places_length in omega (arith, e);
      are_clears = was.are_clears;
      decided = decided_placed boxes (clearances_of now) placing placing' m more kept same was.decided;
    }
      where
        more : length placing.places ≤ length placing'.places
        more = let l = placed.places_length in let early = was.early in let few = was.fits.first_most in omega (arith, l, early, few)

        -- the bottom border edge of the box
        start_near : IsStartNear (weight boxes m) start
        start_near = true_or (is_solid (block_at boxes p).inside) (IsStartNear (weight boxes m) start)
            (λ solid. let low = placed.low p positive was.fits.parent solid in
            let h : height ≡ length_at placing'.extents p = is_height ∙ rw solid refl in
            subst (λ (v : ℤ). IsWithin (reach (weight boxes m)) v) (sym (starts ∙ (λ i. marked i +ℤ h i))) low)
            (λ flow. let near_mark = marks_near boxes tree now p m was.fits end ended m was.fits.within marks settles p in
            below_near (weight boxes p) (weight boxes m) mark height start (subst (IsMarkNear (weight boxes p)) (sym marked) near_mark) (size flow) starts (weight_over boxes p m was.fits.parent))

        ext_there : (extents : Extents) → MayBe boxes (length placing'.places) placing'.extents extents → is_placed (block_at boxes p).inside ≡ true → length_at placing'.extents p ≡ length_at extents.depths p
        ext_there extents may_be is_there = let l = placed.places_length in let lt = was.fits.parent in sym (may_be p (omega (arith, l, lt)) is_there)

        there : (y : BlockLayout) → MayBe boxes (length placing'.places) placing'.extents y.extents → IsCandidate boxes y (clearances_of now) m
            → IsAt boxes y (record now { marks = marks; heights = heights; start = start; strut = strut'; first = m; hangs = false }) (margin_place (parent_at boxes p) m)
        there y may_be' candidate =
            let is = candidate.is_layout in
            let may_be = may_before boxes placing placing' y.extents more kept may_be' in
            let ext = ext_there y.extents may_be' in
            let at = was.is_at y may_be candidate in
            let truth = stands y may_be candidate settled in
            let parted : joins_bottom boxes y.runs p ≡ false = joins_here y may_be candidate ∙ rw (truth, may) refl in
            let mark_is = marked ∙ mark_parted boxes y is tree now p m positive at ends truth parted end reaches marks settles in
            let bottom = reach_parted boxes y is tree now p m positive at ends truth parted end reaches ∙ sym (bottom_parted boxes y is tree now p m positive at ends parted truth) in
            let inside = (block_at boxes p).inside in
            let top : ℤ = mark +ℤ (block_at boxes p).edge_top.0 in
            let bottom_is = held_same inside top (length_at y.places.marks p +ℤ (block_at boxes p).edge_top.0) (length_at placing'.extents p) (length_at y.extents.depths p) end _
            (ap (λ (v : ℤ). v +ℤ (block_at boxes p).edge_top.0) mark_is) ext bottom in
            let held_is = ap (λ (v : ℤ). border_height (block_at boxes p) (length_at placing'.extents p) v) (held_between inside top (length_at placing'.extents p) end) in
            let height_is = height_there boxes y is tree now p m positive at ends height mark (held_end inside top (length_at placing'.extents p) end) truth mark_is bottom_is
            (is_height ∙ held_is ∙ same_border_height (block_at boxes p) (length_at placing'.extents p) (length_at y.extents.depths p) (held_end inside top (length_at placing'.extents p) end -ℤ top) (λ solid. ext (solid_placed inside solid))) in
            let wrote_height : Wrote length_at now.heights heights p (length_at y.places.heights p) = subst (λ (v : ℤ). Wrote length_at now.heights heights p v) height_is wrote in
            close_parted boxes y is tree now p m positive at ends truth parted end reaches marks settles heights strut' start wrote_height
            (starts ∙ (λ i. marked i +ℤ (sym wrote.here) i)) holds
