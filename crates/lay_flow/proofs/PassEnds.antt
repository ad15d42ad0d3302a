-- The beginning and the end of the pass.
use Rattle.std.proofs.Common.{◌≡◌, ℕ, zero, suc, Bool, false, ℤ, pos, ◌+ℤ◌, List, [], ◌∷◌, length, slice_index_or, replicate, refl, sym, ap, ◌∙◌, arith, inl, inr, Option, Some, None, subst}
use Rattle.std.proofs.lemmas.Bool.{cases_eq}
use Rattle.std.proofs.lemmas.Int.{ints}
use Rattle.lay_flow.specs.declared.blocks.flow_box.FlowBox.{FlowBox}
use Rattle.lay_units.specs.declared.length.Unit.{Unit as Length}
use Rattle.lay_units.specs.Units.{IsBoxSize}
use Rattle.lay_units.specs.Lengths.{no_length}
use Rattle.lay_margins.specs.Collapse.{Holds, collapse}
use Rattle.lay_floats.specs.declared.placed.Placed.{Placed}
use Rattle.lay_floats.specs.declared.requests.Clear.TheVariants.{Both as clear_both}
use Rattle.lay_floats.specs.ClearEdge.{IsClearEdge}
use Rattle.lay_heights.specs.AutoHeights.{root_height_of}
use Rattle.lay_flow.specs.Blocks.Lengths.{length_at}
use Rattle.lay_flow.specs.Blocks.Children.{last_child, flag_at}
use Rattle.lay_flow.specs.Blocks.MarginRuns.{Entry, margins, block_at, run_at, run_before}
use Rattle.lay_flow.specs.Blocks.BlockLayout.{BlockLayout, Extents}
use Rattle.lay_flow.specs.Blocks.BlockPositions.{IsBlockLayout, content_top, start_below, start_before, border_height, content_height, is_solid, held_end}
use Rattle.lay_flow.specs.Blocks.ContextFlow.{ArePlacesInContext}
use Rattle.lay_flow.specs.Pass.State.{PassState, Settled, columns_of, clearances_of, ended_run}
use Rattle.lay_flow.specs.Blocks.FlowBoxes.{AreFlowBoxes}
use Rattle.lay_flow.specs.Pass.Bounds.{clears_of, clear_edges_of, StateFits, AreBoxHeights}
use Rattle.lay_flow.specs.Pass.Struts.{StrutFits}
use Rattle.lay_flow.proofs.BlocksLemmas.WeightFacts.{weight_up}
use Rattle.lay_flow.specs.Pass.Placed.{Placing, PlacesTo}
use Rattle.lay_flow.specs.Pass.Knows.{Knows, MayBe, HaveNoExtent, IsCandidate, AreExtentsKept, ArePlacesKept}
use Rattle.lay_flow.proofs.BlocksLemmas.FlowBoxFacts.{block_fits, root_not_solid}
use Rattle.lay_flow.proofs.BlocksLemmas.ContentHeights.{content_bottom, content_root, held_same, margin_end, same_border_height}
use Rattle.lay_flow.proofs.BlocksLemmas.BlockLayoutLaws.{layout_there, same_lengths}
use Rattle.lay_flow.proofs.BlocksLemmas.LayoutFacts.{start_first, start_next}
use Rattle.lay_flow.proofs.PassSteps.{no_extents_kept}
use Rattle.lay_flow.proofs.BlocksLemmas.RunFacts.{first_comes, next_comes}
use Rattle.lay_flow.proofs.RunReach.{RunEnds}
use Rattle.lay_flow.proofs.SoFar.{Wrote}
use Rattle.lay_flow.proofs.BlocksLemmas.Truths.{true_false}
use Rattle.lay_flow.proofs.WholePass.{begins, all_marks, all_heights, reach_end}
use Rattle.lay_flow.specs.Blocks.MarginPlace.{margin_place}

pub flags_at : (n k : ℕ) → flag_at (replicate n false) k ≡ false
flags_at zero k = refl
flags_at (suc n) zero = refl
flags_at (suc n) (suc k) = flags_at n k

entry_at : (n k : ℕ) → slice_index_or (replicate n no_length) k no_length ≡ no_length
entry_at zero k = refl
entry_at (suc n) zero = refl
entry_at (suc n) (suc k) = entry_at n k

pub lengths_at : (n k : ℕ) → length_at (replicate n no_length) k ≡ pos 0
lengths_at n k = ap (λ (v : Length). v.0) (entry_at n k)

pub none_cleared : (n : ℕ) → clears_of (replicate n None) ≡ replicate n false
none_cleared zero = refl
none_cleared (suc n) = ap (λ flags. false ∷ flags) (none_cleared n)

pub no_edges : (n : ℕ) → clear_edges_of (replicate n None) ≡ replicate n no_length
no_edges zero = refl
no_edges (suc n) = ap (λ edges. no_length ∷ edges) (no_edges n)

module _ (boxes : List FlowBox) (input : AreFlowBoxes boxes) where
  root_mark : (y : BlockLayout) → IsBlockLayout boxes y → length_at y.places.marks 0 ≡ pos 0
  root_mark y is = is.has_positions.mark 0 input.is_tree.some

  pub knows_first : (now : PassState) (placing : Placing) → PlacesTo boxes now.marks placing 1 → HaveNoExtent boxes placing.extents → length now.marks ≡ length boxes → length now.heights ≡ length boxes → length now.through ≡ length boxes → length now.clears ≡ length boxes → length now.clear_edges ≡ length boxes → now.first ≡ 1 → now.hangs ≡ false
      → Holds now.strut [] → StrutFits now.strut → now.start ≡ (block_at boxes 0).edge_top.0
      → ((j : ℕ) → length_at now.marks j ≡ pos 0) → ((j : ℕ) → length_at now.heights j ≡ pos 0) → ((j : ℕ) → flag_at now.through j ≡ false)
      → ((j : ℕ) → flag_at now.clears j ≡ false) → ((j : ℕ) → length_at now.clear_edges j ≡ pos 0)
      → Knows boxes now placing (margin_place 0 1)
  knows_first now placing placed no_extents l1 l2 l3 l4 l5 first hangs holds fits start marks heights flags clears edges =
      let some = input.is_tree.some in
      let inset = (block_fits boxes input 0 some).edge_top in
      let a = inset.0 in let b = inset.1 in
      record {
        fits = record {
          parent = omega arith;
          within = omega (arith, some);
          first_least = omega (arith, first);
          first_most = omega (arith, first);
          marks_length = l1;
          heights_length = l2;
          through_length = l3;
          start_near = let w = weight_up boxes 1 now.first (omega (arith, first)) in (omega (arith, ints, a, b, start, w), omega (arith, ints, a, b, start, w));
          edge_near = λ t. absurd (true_false now.hangs t hangs);
          sized = λ j flow. (let e = heights j in (omega (arith, ints, e), omega (arith, ints, e)));
          mark_near = λ j. (let e = marks j in (omega (arith, ints, e), omega (arith, ints, e)));
          strut_fits = fits;
          unparted = λ j low high. absurd (omega (arith, low, high, first));
        };
        near = (omega (arith, ints, a, b, start), omega (arith, ints, a, b, start));
        is_at = λ y may_be candidate.
            let mark = root_mark y candidate.is_layout in
            begins boxes y candidate.is_layout input.is_tree.tree now some first hangs holds
            (start ∙ zero_plus (length_at y.places.marks 0) (block_at boxes 0).edge_top.0 mark) (marks 0 ∙ sym mark) flags;
        are_clears = record { clears_length = l4; edges_length = l5; later = λ j le. clears j; root = clears 0; float = λ k side e. clears k; no_edge = λ k off. edges k };
        decided = λ k low lt. absurd (omega (arith, low, lt));
        no_extents = no_extents;
        placed = subst (λ (n : ℕ). PlacesTo boxes now.marks placing n) (sym placed.places_length) placed;
        early = let one = placed.places_length in omega (arith, one, first);
      }
    where
      zero_plus : (m e : ℤ) → m ≡ pos 0 → e ≡ m +ℤ e
      zero_plus m e z = omega (arith, ints, z)

  -- where the content of the context's own box ends
  root_bottom : (y : BlockLayout) → margin_end boxes y 0 ≡ start_before boxes y 0 (length boxes) +ℤ collapse (margins (run_before boxes y.runs 0 (length boxes)))
  root_bottom y = go (last_child boxes 0 (length boxes)) refl
    where
      plus_none : (v : ℤ) → v ≡ v +ℤ collapse []
      plus_none v = omega (arith, ints)

      two : (a b : ℤ) (xs zs : List Entry) → a ≡ b → xs ≡ zs → a +ℤ collapse (margins xs) ≡ b +ℤ collapse (margins zs)
      two a b xs zs e f = rw (e, f) refl

      go : (o : Option ℕ) → last_child boxes 0 (length boxes) ≡ o → margin_end boxes y 0 ≡ start_before boxes y 0 (length boxes) +ℤ collapse (margins (run_before boxes y.runs 0 (length boxes)))
      go None e =
          let run : run_before boxes y.runs 0 (length boxes) ≡ [] = first_comes boxes y.runs 0 (length boxes) e in
          let start : start_before boxes y 0 (length boxes) ≡ length_at y.places.marks 0 +ℤ (block_at boxes 0).edge_top.0 = start_first boxes y 0 (length boxes) e in
          let bottom : margin_end boxes y 0 ≡ length_at y.places.marks 0 +ℤ (block_at boxes 0).edge_top.0 = rw e refl in
          bottom ∙ sym start ∙ plus_none (start_before boxes y 0 (length boxes)) ∙ sym (ap (λ (run : List Entry). start_before boxes y 0 (length boxes) +ℤ collapse (margins run)) run)
      go (Some c) e =
          let run = next_comes boxes y.runs 0 (length boxes) c e in
          let start = start_next boxes y 0 (length boxes) c e in
          let bottom : margin_end boxes y 0 ≡ start_below y c +ℤ collapse (margins (run_at y.runs.to_bottoms c)) = rw e refl in
          bottom ∙ two (start_below y c) (start_before boxes y 0 (length boxes)) (run_at y.runs.to_bottoms c) (run_before boxes y.runs 0 (length boxes)) (sym start) (sym run)

  pub all_places : (now : PassState) (placing placing' : Placing) (marks heights : List Length) (bottom : Option Length) (end over mark height : ℤ)
      → Knows boxes now placing (margin_place 0 (length boxes))
      → RunEnds now end
      → Settled boxes (ended_run (columns_of now) (length boxes) end) now.marks marks
      → PlacesTo boxes marks placing' (length boxes) → AreExtentsKept boxes (length placing.places) placing.extents placing'.extents → ArePlacesKept placing.places placing'.places
      → IsClearEdge placing'.floats clear_both bottom
      → mark ≡ length_at marks 0 → over ≡ held_end (block_at boxes 0).inside (mark +ℤ (block_at boxes 0).edge_top.0) (length_at placing'.extents 0) end
      → height ≡ border_height (block_at boxes 0) (pos 0) (root_height_of (record { 0 = mark +ℤ (block_at boxes 0).edge_top.0 }) (record { 0 = over }) bottom)
      → Wrote length_at now.heights heights 0 height
      → ArePlacesInContext boxes marks heights placing'.places
  all_places now placing placing' marks heights bottom end over mark height known ends settled placed kept same is_bottom marked over_is is_height wrote =
      let extents : Extents = record { depths = placing'.extents; floats = bottom } in
      let n : ℕ = length boxes in
      let there = layout_there boxes extents now.clear_edges now.clears input.is_tree.tree input.is_tree.some known.are_clears.clears_length in
      let y : BlockLayout = record { extents = extents; clear_edges = now.clear_edges; runs = there.0; places = there.1 } in
      let is = there.3 in
      let clears : (k : ℕ) → flag_at y.runs.clears k ≡ flag_at now.clears k = λ k. ap (λ (flags : List Bool). flag_at flags k) there.2 in
      let candidate : IsCandidate boxes y (clearances_of now) n = record { is_layout = is; clears = λ j lt. clears j; edge = λ j lt t. refl } in
      let positive = known.fits.first_least in
      let may_be : MayBe boxes (length placing.places) placing.extents extents = λ j lt is_there. kept j (λ s. lt) in
      let no_extents = no_extents_kept boxes placing.extents placing'.extents (length placing.places) kept known.no_extents in
      let at = known.is_at y may_be candidate in
      let through : flag_at y.runs.through 0 ≡ false = is.has_runs.through 0 input.is_tree.some in
      let root = at.so_far.marked.stands 0 positive (at.so_far.open_yet 0 (omega arith) at.in_run.gathered.inside) through in
      let each_mark = all_marks boxes y is input.is_tree.tree now at end ends marks root settled in
      let content : length_at y.places.heights 0 ≡ border_height (block_at boxes 0) (length_at placing'.extents 0) (content_height boxes y 0) = is.has_positions.height 0 input.is_tree.some ∙ rw through refl in
      let mark_is = marked ∙ each_mark 0 input.is_tree.some in
      let end_is = reach_end boxes y is input.is_tree.tree now at end ends ∙ sym (root_bottom y) in
      let inside = (block_at boxes 0).inside in
      let bottom_is = over_is ∙ held_same inside (mark +ℤ (block_at boxes 0).edge_top.0) (length_at y.places.marks 0 +ℤ (block_at boxes 0).edge_top.0) (length_at placing'.extents 0) (length_at placing'.extents 0) end (margin_end boxes y 0)
      (ap (λ (v : ℤ). v +ℤ (block_at boxes 0).edge_top.0) mark_is) (λ t. refl) end_is in
      let height_is : height ≡ length_at y.places.heights 0 = is_height
      ∙ (λ i. border_height (block_at boxes 0) (pos 0) (root_height_of (record { 0 = mark_is i +ℤ (block_at boxes 0).edge_top.0 }) (record { 0 = bottom_is i }) bottom))
      ∙ same_border_height (block_at boxes 0) (pos 0) (length_at placing'.extents 0) (root_height_of (content_top boxes y 0) (record { 0 = content_bottom boxes y 0 }) bottom) (λ solid. absurd (true_false (is_solid inside) solid (root_not_solid boxes input.is_tree)))
      ∙ ap (λ (v : ℤ). border_height (block_at boxes 0) (length_at placing'.extents 0) v) (sym (content_root boxes y)) ∙ sym content in
      let marks_length = settled.length_is ∙ known.fits.marks_length in
      let heights_length = wrote.length_is ∙ known.fits.heights_length in
      let tops_are = same_lengths marks y.places.marks (marks_length ∙ sym is.has_positions.marks_length) (λ k lt. each_mark k (omega (arith, lt, marks_length))) in
      let stands = subst (λ (ms : List Length). PlacesTo boxes ms placing' n) tops_are placed in
      record {
        flow = record { layout = y; places = placing'.places };
        is_flow = record {
          by_clearances = record {
            layout = is;
            extents_length = placed.extents_length;
            clear_edges_length = known.are_clears.edges_length;
            places_length = placed.places_length;
            float = λ k side low lt s. stands.float k side low lt s;
            solid = λ k low lt solid. stands.solid k low lt solid;
            no_place_root = stands.root input.is_tree.some;
            no_place_else = λ k low lt none flow. stands.other k low lt none flow;
            solid_extent = λ k low lt solid. stands.extent k low lt solid;
            no_extent = λ k lt flow. no_extents k flow;
            lines = λ k lt lines. stands.lines k lt lines;
            no_lines_else = λ k lt none. stands.no_lines_else k lt none;
            lines_extent = λ k lt lines. stands.lines_extent k lt lines;
            bottom = subst (λ (fs : List Placed). IsClearEdge fs clear_both bottom) stands.floats_are is_bottom;
          };
          root_clear = clears 0 ∙ known.are_clears.root;
          float_clear = λ k side lt s. clears k ∙ known.are_clears.float k side s;
          clearance = λ k low lt none. known.decided k low lt none y placing'.places may_be candidate same;
          no_edge = λ k lt off. known.are_clears.no_edge k (sym (clears k) ∙ off);
        };
        tops_are = tops_are;
        heights_are = same_lengths heights y.places.heights (heights_length ∙ sym is.has_positions.heights_length) (λ k lt. elim (cases_eq k 0) [
          | inl z ↦ subst (λ (k : ℕ). length_at heights k ≡ length_at y.places.heights k) (sym z) (wrote.here ∙ height_is)
          | inr ne ↦ wrote.other k ne ∙ all_heights boxes y is input.is_tree.tree now at end ends k (omega (arith, ne)) (omega (arith, lt, heights_length))
        ]);
        places_are = refl;
      }

  pub sized_boxes : (now : PassState) (heights : List Length) (height : ℤ) → StateFits boxes now 0 (length boxes) → (is_solid (block_at boxes 0).inside ≡ false → IsBoxSize height) → Wrote length_at now.heights heights 0 height
      → AreBoxHeights boxes heights
  sized_boxes now heights height fits size wrote k lt flow = elim (cases_eq k 0) [
    | inl e ↦ (let h = wrote.here in subst (λ (k : ℕ). IsBoxSize (length_at heights k)) (sym e) (subst IsBoxSize (sym h) (size (sym (ap (λ (k : ℕ). is_solid (block_at boxes k).inside) e) ∙ flow))))
    | inr ne ↦ subst IsBoxSize (sym (wrote.other k ne)) (fits.sized k flow)
  ]
