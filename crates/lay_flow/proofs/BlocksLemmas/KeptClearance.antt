-- A box has the clearance that it has in another flow by clearances, where the boxes before it have theirs too.
use Rattle.std.proofs.Common.{◌≡◌, ◌↔◌, ℕ, ◌<◌, ◌≤◌, true, false, List, length, sym, ◌∙◌, Option}
use Rattle.lay_flow.specs.declared.blocks.flow_box.FlowBox.{FlowBox}
use Rattle.lay_flow.specs.Blocks.Boxes.{box_at, parent_at}
use Rattle.lay_units.specs.declared.length.Unit.{Unit as Length}
use Rattle.lay_floats.specs.ClearEdge.{IsClearEdge}
use Rattle.lay_flow.specs.Blocks.Lengths.{length_at}
use Rattle.lay_flow.specs.Blocks.Children.{flag_at}
use Rattle.lay_flow.specs.Blocks.BlockLayout.{BlockLayout}
use Rattle.lay_flow.specs.Blocks.BlockFloats.{floats_before, shape_at}
use Rattle.lay_flow.specs.Blocks.Clearance.{HasClearance, IsHypothetical, NeedsClearance, lower_of}
use Rattle.lay_flow.specs.Blocks.ContextFlow.{Flow, IsFlowByClearances}
use Rattle.lay_flow.specs.Blocks.FlowBoxes.{IsFlowTree, is_in_lines}
use Rattle.lay_flow.proofs.Cited.{some_clear_edge_lem}
use Rattle.lay_flow.proofs.BlocksLemmas.AlikeWalks.{AreAlike, SameClearances, SameDepths, alike_to}
use Rattle.lay_flow.proofs.BlocksLemmas.Hypotheticals.{some_hypothetical_lem}
use Rattle.lay_flow.proofs.BlocksLemmas.MarginWalk.{place_before}
use Rattle.lay_flow.proofs.BlocksLemmas.NeedsAlike.{bottom_cleared, mark_without, needs_alike}
use Rattle.lay_flow.proofs.BlocksLemmas.PlacesAgree.{extent_placed, extent_other}
use Rattle.lay_flow.proofs.BlocksLemmas.Truths.{true_or}
use Rattle.lay_flow.proofs.BlocksLemmas.WaitingFloats.{no_need}

module _ (boxes : List FlowBox) (are : IsFlowTree boxes) (f g : Flow) (is : IsFlowByClearances boxes f) (also : IsFlowByClearances boxes g)
    (n : ℕ) (same : SameClearances f.layout g.layout n) (k : ℕ) (positive : 0 < k) (within : k < length boxes) (le : k ≤ n) where
  depths : SameDepths boxes f.layout g.layout
  depths = record {
    placed = λ p inner placed marks. extent_placed boxes are.tree are f g is also p inner placed marks;
    other = λ p inner flows. extent_other boxes are.tree are f g is also p inner flows;
  }

  here : AreAlike boxes are.tree are.some f.layout is.layout g.layout also.layout n same depths (parent_at boxes k) k
  here = alike_to boxes are.tree are.some f.layout is.layout g.layout also.layout n same depths (parent_at boxes k) k (place_before boxes are.tree k positive within) le

  pub same_bottom : flag_at f.layout.runs.clears k ≡ true → flag_at g.layout.runs.clears k ≡ true → (bottom low : Option Length)
      → IsClearEdge (floats_before boxes f.places k) (shape_at boxes k).clear bottom → IsClearEdge (floats_before boxes g.places k) (shape_at boxes k).clear low → bottom ≡ low
  same_bottom = bottom_cleared boxes are.tree are.some are f g is also here.first k positive within here.alike

  module _ (out : is_in_lines (box_at boxes k).kind ≡ false) (without other : BlockLayout) (h : IsHypothetical boxes f.layout k without) (t : IsHypothetical boxes g.layout k other) where
    pub same_mark : length_at without.places.marks k ≡ length_at other.places.marks k
    same_mark = mark_without boxes are.tree are.some are f g is also here.first k positive within here.alike out without other h t

    pub same_needs : (bottom low : Option Length) → IsClearEdge (floats_before boxes f.places k) (shape_at boxes k).clear bottom
        → IsClearEdge (floats_before boxes g.places k) (shape_at boxes k).clear low → NeedsClearance boxes without k bottom ↔ NeedsClearance boxes other k low
    same_needs = needs_alike boxes are.tree are.some are f g is also here.first k positive within here.alike out without other h t

  pub keeps_clearance : flag_at f.layout.runs.clears k ≡ flag_at g.layout.runs.clears k
      → (flag_at f.layout.runs.clears k ≡ true → length_at f.layout.clear_edges k ≡ length_at g.layout.clear_edges k)
      → HasClearance boxes f.layout f.places k → HasClearance boxes g.layout g.places k
  keeps_clearance clear edge has = true_or (is_in_lines (box_at boxes k).kind) (HasClearance boxes g.layout g.places k) in_lines in_flow
    where
      other : (without : BlockLayout) × IsHypothetical boxes g.layout k without
      other = some_hypothetical_lem boxes g.layout k are.tree are.some also.layout

      low : (bottom : Option Length) × IsClearEdge (floats_before boxes g.places k) (shape_at boxes k).clear bottom
      low = some_clear_edge_lem (floats_before boxes g.places k) (shape_at boxes k).clear

      in_lines : is_in_lines (box_at boxes k).kind ≡ true → HasClearance boxes g.layout g.places k
      in_lines inside = record {
        without = other.0;
        is_hypothetical = other.1;
        bottom = low.0;
        is_bottom = low.1;
        decides = (λ t. absurd (none (clear ∙ t)), λ needs. absurd (no_need boxes k inside (floats_before boxes g.places k) other.0 low.0 low.1 needs));
        edge = λ t. absurd (none (clear ∙ t));
      }
        where
          none : flag_at f.layout.runs.clears k ≡ true → ⊥
          none t = no_need boxes k inside (floats_before boxes f.places k) has.without has.bottom has.is_bottom (has.decides.0 t)

      in_flow : is_in_lines (box_at boxes k).kind ≡ false → HasClearance boxes g.layout g.places k
      in_flow out =
          let needs = same_needs out has.without other.0 has.is_hypothetical other.1 has.bottom low.0 has.is_bottom low.1 in
          let mark = same_mark out has.without other.0 has.is_hypothetical other.1 in
          record {
            without = other.0;
            is_hypothetical = other.1;
            bottom = low.0;
            is_bottom = low.1;
            decides = (λ t. needs.0 (has.decides.0 (clear ∙ t)), λ n. sym clear ∙ has.decides.1 (needs.1 n));
            edge = λ t. let bottom = same_bottom (clear ∙ t) t has.bottom low.0 has.is_bottom low.1 in
                sym (edge (clear ∙ t)) ∙ has.edge (clear ∙ t) ∙ (λ i. lower_of (bottom i) (mark i));
          }
