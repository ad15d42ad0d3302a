-- A context has one flow.
use Rattle.std.proofs.Common.{◌≡◌, ℕ, ◌+◌, ◌<◌, ◌≤◌, false, ℤ, ◌+ℤ◌, List, length, map, refl, sym, ap, ◌∙◌, arith, inl, subst}
use Rattle.std.proofs.lemmas.List.{ext_get_or}
use Rattle.lay_flow.specs.Blocks.FlowBoxes.{IsFlowTree}
use Rattle.lay_flow.specs.declared.blocks.flow_box.FlowBox.{FlowBox}
use Rattle.lay_flow.specs.Blocks.Boxes.{parent_at, parents_of}
use Rattle.lay_doc.specs.Tree.{IsTree}
use Rattle.lay_floats.specs.declared.requests.Clear.TheVariants.{Both as clear_both}
use Rattle.lay_floats.specs.ClearEdge.{IsClearEdge}
use Rattle.lay_flow.proofs.Cited.{one_clear_edge_lem}
use Rattle.lay_flow.specs.Blocks.Lengths.{length_at}
use Rattle.lay_flow.specs.Blocks.Children.{flag_at}
use Rattle.lay_flow.specs.Blocks.MarginRuns.{block_at, run_before}
use Rattle.lay_flow.specs.Blocks.BlockLayout.{BlockLayout}
use Rattle.lay_flow.specs.Blocks.BlockPositions.{is_placed, start_before}
use Rattle.lay_flow.specs.Blocks.BlockFloats.{Spot, no_spot, floats_before}
use Rattle.lay_flow.specs.Blocks.ContextFlow.{Flow, IsContextFlow}
use Rattle.lay_flow.specs.Blocks.MarginPlace.{IsPlace, IsAround}
use Rattle.lay_flow.specs.Blocks.Laws.{OneContextFlow, OneFlowOf}
use Rattle.lay_flow.specs.Blocks.FlowPlaces.{no_box_place, border_box_in}
use Rattle.lay_flow.proofs.BlocksLemmas.Truths.{true_false, true_or}
use Rattle.lay_flow.proofs.BlocksLemmas.BlockKinds.{joins_flow}
use Rattle.lay_flow.proofs.BlocksLemmas.BlockLayoutLaws.{one_block_layout_lem, same_lengths}
use Rattle.lay_flow.proofs.BlocksLemmas.MarginWalk.{walk}
use Rattle.lay_flow.proofs.BlocksLemmas.GatheredRuns.{begins}
use Rattle.lay_flow.proofs.BlocksLemmas.LayoutsAlike.{marks_same}
use Rattle.lay_flow.proofs.BlocksLemmas.AlikeSteps.{AlikeAt, opens_alike}
use Rattle.lay_flow.proofs.BlocksLemmas.AlikeClosings.{closes_alike}
use Rattle.lay_flow.proofs.BlocksLemmas.PlacesAgree.{places_to, extent_placed, extent_other}
use Rattle.lay_flow.proofs.BlocksLemmas.OneClearance.{one_clear, one_edge}

module _ (boxes : List FlowBox) (tree : IsTree (parents_of boxes)) (some : 0 < length boxes) (are : IsFlowTree boxes)
    (f g : Flow) (is : IsContextFlow boxes f) (also : IsContextFlow boxes g) where
  record AreAlike (p m : ℕ) : Type 0 where
    pub first : ℕ
    pub alike : AlikeAt boxes tree f.layout is.by_clearances.layout g.layout also.by_clearances.layout first p m

  opens : (k : ℕ) → 0 < k → k < length boxes → AreAlike (parent_at boxes k) k → AreAlike k (k + 1)
  opens k positive within was =
      let next = opens_alike boxes tree f.layout is.by_clearances.layout g.layout also.by_clearances.layout was.first k positive within was.alike
      (one_clear boxes tree some are f g is also was.first k positive within was.alike) (one_edge boxes tree some are f g is also was.first k positive within was.alike) in
      record { first = next.next; alike = next.alike }

  closes : (p m : ℕ) → 0 < p → p < m → m ≤ length boxes → (m < length boxes → parent_at boxes m < p) → IsAround boxes p m → AreAlike p m → AreAlike (parent_at boxes p) m
  closes p m positive lt within ends around was =
      let inner : p < length boxes = omega (arith, lt, within) in
      let next = closes_alike boxes tree f.layout is.by_clearances.layout g.layout also.by_clearances.layout was.first p m positive was.alike ends
      (λ marks. true_or (is_placed (block_at boxes p).inside) (length_at f.layout.extents.depths p ≡ length_at g.layout.extents.depths p)
      (λ placed. extent_placed boxes tree are f g is.by_clearances also.by_clearances p inner placed (λ j low. marks j (omega (arith, low, lt))))
      (λ flows. extent_other boxes tree are f g is.by_clearances also.by_clearances p inner flows))
      (λ may. extent_other boxes tree are f g is.by_clearances also.by_clearances p inner (joins_flow (block_at boxes p) may)) in
      record { first = next.next; alike = next.alike }

  start_root : (y : BlockLayout) → start_before boxes y 0 1 ≡ length_at y.places.marks 0 +ℤ (block_at boxes 0).edge_top.0
  start_root y = refl

  mark_root : length_at f.layout.places.marks 0 ≡ length_at g.layout.places.marks 0
  mark_root = is.by_clearances.layout.has_positions.mark 0 some ∙ sym (also.by_clearances.layout.has_positions.mark 0 some)

  at_first : AreAlike 0 1
  at_first = record {
    first = 1;
    alike = record {
      gathered = begins boxes tree f.layout.runs is.by_clearances.layout.has_runs some;
      clears = λ j lt. let e : j ≡ 0 = omega (arith, lt) in subst (λ (j : ℕ). flag_at f.layout.runs.clears j ≡ flag_at g.layout.runs.clears j) (sym e) (is.root_clear ∙ sym also.root_clear);
      edges = λ j lt c. let e : j ≡ 0 = omega (arith, lt) in absurd (true_false (flag_at f.layout.runs.clears 0) (ap (flag_at f.layout.runs.clears) (sym e) ∙ c) is.root_clear);
      mark = λ j lt. let e : j ≡ 0 = omega (arith, lt) in subst (λ (j : ℕ). length_at f.layout.places.marks j ≡ length_at g.layout.places.marks j) (sym e) mark_root;
      closed = λ j low high. absurd (omega (arith, low, high));
      gone = λ j i low high lower. absurd (omega (arith, low, high));
      start = inl (start_root f.layout ∙ ap (λ (v : ℤ). v +ℤ (block_at boxes 0).edge_top.0) mark_root ∙ sym (start_root g.layout));
    };
  }

  at_last : AreAlike 0 (length boxes)
  at_last = walk boxes tree AreAlike closes opens at_first some

  marks_all : (j : ℕ) → j < length boxes → length_at f.layout.places.marks j ≡ length_at g.layout.places.marks j
  marks_all =
      let at : IsPlace boxes 0 (length boxes) = record { parent = some; within = omega arith; inside = λ i low high. omega arith; next = λ w. absurd (omega (arith, w)) } in
      marks_same boxes tree f.layout is.by_clearances.layout g.layout also.by_clearances.layout at_last.first 0 (length boxes) at at_last.alike
      (run_before boxes f.layout.runs 0 (length boxes)) (λ c from above inside. let least = at_last.alike.gathered.least in absurd (omega (arith, from, above, least)))

  places_same : f.places ≡ g.places
  places_same = ext_get_or no_spot f.places g.places (is.by_clearances.places_length ∙ sym also.by_clearances.places_length)
      (λ k lt. let l = is.by_clearances.places_length in places_to boxes tree are f g is.by_clearances also.by_clearances (length boxes) (omega arith) marks_all k (omega (arith, l, lt)))

  clears_same : f.layout.runs.clears ≡ g.layout.runs.clears
  clears_same = ext_get_or false f.layout.runs.clears g.layout.runs.clears (is.by_clearances.layout.has_runs.clears_length ∙ sym also.by_clearances.layout.has_runs.clears_length)
      (λ k lt. let l = is.by_clearances.layout.has_runs.clears_length in at_last.alike.clears k (omega (arith, l, lt)))

  edges_same : f.layout.clear_edges ≡ g.layout.clear_edges
  edges_same = same_lengths f.layout.clear_edges g.layout.clear_edges (is.by_clearances.clear_edges_length ∙ sym also.by_clearances.clear_edges_length) (λ k lt.
      let l = is.by_clearances.clear_edges_length in
      let there : k < length boxes = omega (arith, l, lt) in
      true_or (flag_at f.layout.runs.clears k) (length_at f.layout.clear_edges k ≡ length_at g.layout.clear_edges k)
      (λ cleared. at_last.alike.edges k there cleared)
      (λ unclear. is.no_edge k there unclear ∙ sym (also.no_edge k there (sym (at_last.alike.clears k there) ∙ unclear))))

  floats_same : f.layout.extents.floats ≡ g.layout.extents.floats
  floats_same = one_clear_edge_lem (floats_before boxes f.places (length boxes)) clear_both f.layout.extents.floats g.layout.extents.floats is.by_clearances.bottom
      (subst (λ (ps : List Spot). IsClearEdge (floats_before boxes ps (length boxes)) clear_both g.layout.extents.floats) (sym places_same) also.by_clearances.bottom)

  depths_same : f.layout.extents.depths ≡ g.layout.extents.depths
  depths_same = same_lengths f.layout.extents.depths g.layout.extents.depths (is.by_clearances.extents_length ∙ sym also.by_clearances.extents_length) (λ k lt.
      let l = is.by_clearances.extents_length in
      let there : k < length boxes = omega (arith, l, lt) in
      true_or (is_placed (block_at boxes k).inside) (length_at f.layout.extents.depths k ≡ length_at g.layout.extents.depths k)
      (λ placed. extent_placed boxes tree are f g is.by_clearances also.by_clearances k there placed (λ j low. marks_all j (omega (arith, low, there))))
      (λ flows. extent_other boxes tree are f g is.by_clearances also.by_clearances k there flows))

  extents_same : f.layout.extents ≡ g.layout.extents
  extents_same = let s = depths_same in let b = floats_same in λ i. record { depths = s i; floats = b i }

  flows_same : f ≡ g
  flows_same =
      let p = places_same in
      let y = one_block_layout_lem boxes f.layout g.layout tree some extents_same edges_same clears_same is.by_clearances.layout also.by_clearances.layout in
      λ i. record { layout = y i; places = p i }

pub one_context_flow_lem : OneContextFlow
one_context_flow_lem boxes f g are is also = flows_same boxes are.tree are.some are f g is also

pub one_flow_of_lem : OneFlowOf
one_flow_of_lem boxes out other are is also =
    let e = one_context_flow_lem boxes is.flow also.flow are is.is_flow also.is_flow in
    let boxes_same : out.boxes ≡ other.boxes = ext_get_or no_box_place out.boxes other.boxes (is.places.count ∙ sym also.places.count) (λ k lt. let l = is.places.count in
    is.places.each k (omega (arith, lt, l))
    ∙ ap (λ (f : Flow). border_box_in boxes f k) e
    ∙ sym (also.places.each k (omega (arith, lt, l)))) in
    let lines_same : out.lines ≡ other.lines = is.places.lines ∙ ap (λ (f : Flow). map (λ (p : Spot). p.lines.rows) f.places) e ∙ sym also.places.lines in
    λ i. record { boxes = boxes_same i; lines = lines_same i }
