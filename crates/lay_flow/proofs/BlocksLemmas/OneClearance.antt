-- Two flows of a context that are alike before a box give it the same clearance.
use Rattle.std.proofs.Common.{◌≡◌, ℕ, ◌<◌, Bool, true, false, List, length, refl, sym, ◌∙◌, Option, Some, None}
use Rattle.lay_flow.specs.declared.blocks.flow_box.FlowBox.{FlowBox}
use Rattle.lay_flow.specs.Blocks.Boxes.{box_at, parent_at, parents_of}
use Rattle.lay_doc.specs.Tree.{IsTree}
use Rattle.lay_floats.specs.declared.requests.Side.{Side}
use Rattle.lay_flow.specs.Blocks.Lengths.{length_at}
use Rattle.lay_flow.specs.Blocks.Children.{flag_at}
use Rattle.lay_flow.specs.Blocks.BlockFloats.{floats_before, shape_at}
use Rattle.lay_flow.specs.Blocks.Clearance.{HasClearance, lower_of}
use Rattle.lay_flow.specs.Blocks.ContextFlow.{Flow, IsContextFlow}
use Rattle.lay_flow.specs.Blocks.FlowBoxes.{IsFlowTree, is_in_lines}
use Rattle.lay_flow.proofs.BlocksLemmas.Truths.{true_false, true_or}
use Rattle.lay_flow.proofs.BlocksLemmas.AlikeSteps.{AlikeAt}
use Rattle.lay_flow.proofs.BlocksLemmas.NeedsAlike.{bottom_cleared, mark_without, needs_alike}
use Rattle.lay_flow.proofs.BlocksLemmas.WaitingFloats.{no_need}

module _ (boxes : List FlowBox) (tree : IsTree (parents_of boxes)) (some : 0 < length boxes) (are : IsFlowTree boxes)
    (f g : Flow) (is : IsContextFlow boxes f) (also : IsContextFlow boxes g)
    (first k : ℕ) (positive : 0 < k) (within : k < length boxes)
    (was : AlikeAt boxes tree f.layout is.by_clearances.layout g.layout also.by_clearances.layout first (parent_at boxes k) k) where
  module _ (none : (shape_at boxes k).float ≡ None) (out : is_in_lines (box_at boxes k).kind ≡ false) where
    here : HasClearance boxes f.layout f.places k
    here = is.clearance k positive within none

    there : HasClearance boxes g.layout g.places k
    there = also.clearance k positive within none

    clear_in_flow : flag_at f.layout.runs.clears k ≡ flag_at g.layout.runs.clears k
    clear_in_flow =
        let needs = needs_alike boxes tree some are f g is.by_clearances also.by_clearances first k positive within was out
        here.without there.without here.is_hypothetical there.is_hypothetical here.bottom there.bottom here.is_bottom there.is_bottom in
        both_ways (flag_at f.layout.runs.clears k) (flag_at g.layout.runs.clears k)
        (λ t. there.decides.1 (needs.0 (here.decides.0 t))) (λ t. here.decides.1 (needs.1 (there.decides.0 t)))
      where
        both_ways : (a b : Bool) → (a ≡ true → b ≡ true) → (b ≡ true → a ≡ true) → a ≡ b
        both_ways true b on back = sym (on refl)
        both_ways false true on back = back refl
        both_ways false false on back = refl

    edge_in_flow : flag_at f.layout.runs.clears k ≡ true → length_at f.layout.clear_edges k ≡ length_at g.layout.clear_edges k
    edge_in_flow cleared =
        let also_cleared = sym clear_in_flow ∙ cleared in
        let bottom = bottom_cleared boxes tree some are f g is.by_clearances also.by_clearances first k positive within was cleared also_cleared
        here.bottom there.bottom here.is_bottom there.is_bottom in
        let mark = mark_without boxes tree some are f g is.by_clearances also.by_clearances first k positive within was out
        here.without there.without here.is_hypothetical there.is_hypothetical in
        here.edge cleared ∙ (λ i. lower_of (bottom i) (mark i)) ∙ sym (there.edge also_cleared)

  -- what stands in lines has no clearance
  module _ (in_lines : is_in_lines (box_at boxes k).kind ≡ true) where
    unclear : (h : Flow) → IsContextFlow boxes h → (shape_at boxes k).float ≡ None → flag_at h.layout.runs.clears k ≡ false
    unclear h also none =
        let here = also.clearance k positive within none in
        true_or (flag_at h.layout.runs.clears k) (flag_at h.layout.runs.clears k ≡ false)
        (λ t. absurd (no_need boxes k in_lines (floats_before boxes h.places k) here.without here.bottom here.is_bottom (here.decides.0 t)))
        (λ f. f)

  pub one_clear : flag_at f.layout.runs.clears k ≡ flag_at g.layout.runs.clears k
  one_clear = go (shape_at boxes k).float refl
    where
      go : (o : Option Side) → (shape_at boxes k).float ≡ o → flag_at f.layout.runs.clears k ≡ flag_at g.layout.runs.clears k
      go None e = true_or (is_in_lines (box_at boxes k).kind) (flag_at f.layout.runs.clears k ≡ flag_at g.layout.runs.clears k)
          (λ in_lines. unclear in_lines f is e ∙ sym (unclear in_lines g also e))
          (λ out. clear_in_flow e out)
      go (Some side) e = is.float_clear k side within e ∙ sym (also.float_clear k side within e)

  pub one_edge : flag_at f.layout.runs.clears k ≡ true → length_at f.layout.clear_edges k ≡ length_at g.layout.clear_edges k
  one_edge cleared = go (shape_at boxes k).float refl
    where
      go : (o : Option Side) → (shape_at boxes k).float ≡ o → length_at f.layout.clear_edges k ≡ length_at g.layout.clear_edges k
      go None e = true_or (is_in_lines (box_at boxes k).kind) (length_at f.layout.clear_edges k ≡ length_at g.layout.clear_edges k)
          (λ in_lines. absurd (true_false (flag_at f.layout.runs.clears k) cleared (unclear in_lines f is e)))
          (λ out. edge_in_flow e out cleared)
      go (Some side) e = absurd (true_false (flag_at f.layout.runs.clears k) cleared (is.float_clear k side within e))
