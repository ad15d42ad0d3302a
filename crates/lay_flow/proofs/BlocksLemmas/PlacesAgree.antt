-- Where the marks of two flows of a context are the same, the floats and the solid boxes stand alike.
use Rattle.std.proofs.Common.{◌≡◌, ℕ, zero, suc, ◌+◌, ◌<◌, ◌≤◌, Bool, true, false, ℤ, ◌+ℤ◌, ◌-ℤ◌, List, length, refl, sym, ap, ◌∙◌, arith, inl, inr, Option, Some, None, subst}
use Rattle.std.proofs.lemmas.Bool.{cases_lt, cases_eq}
use Rattle.lay_flow.specs.declared.blocks.flow_box.FlowBox.{FlowBox}
use Rattle.lay_flow.specs.Blocks.Boxes.{box_at, parent_at, parents_of}
use Rattle.lay_flow.specs.Blocks.FlowBoxes.{IsFlowTree}
use Rattle.lay_lines.specs.Lines.{AreLines}
use Rattle.lay_flow.proofs.BlocksLemmas.OneLineList.{one_line_list}
use Rattle.lay_flow.proofs.BlocksLemmas.BlockKinds.{placed_one}
use Rattle.lay_flow.proofs.BlocksLemmas.FlowBoxFacts.{root_not_solid}
use Rattle.lay_flow.proofs.BlocksLemmas.Truths.{true_false}
use Rattle.lay_flow.proofs.BlocksLemmas.BoxTrees.{parent_before}
use Rattle.lay_doc.specs.Tree.{IsTree}
use Rattle.lay_floats.specs.declared.placed.Placed.{Placed}
use Rattle.lay_floats.specs.declared.requests.Side.{Side}
use Rattle.lay_floats.specs.declared.requests.Place.{Place}
use Rattle.lay_floats.specs.FloatPlace.{IsFloatPlace}
use Rattle.lay_floats.specs.SolidPlace.{IsSolidPlace}
use Rattle.lay_flow.proofs.Cited.{one_float_place_lem, one_solid_place_lem}
use Rattle.lay_flow.specs.Blocks.Lengths.{length_at}
use Rattle.lay_flow.specs.Blocks.MarginRuns.{block_at}
use Rattle.lay_flow.specs.Blocks.BlockPositions.{is_lines, is_placed, is_solid}
use Rattle.lay_flow.specs.Blocks.BlockFloats.{content_of, line_content_of, lines_at, spot_at, shape_at, place_at, floats_before, float_request, solid_request, ceiling}
use Rattle.lay_flow.specs.Blocks.ContextFlow.{Flow, IsFlowByClearances}
use Rattle.lay_flow.proofs.BlocksLemmas.Lengths.{same_length}
use Rattle.lay_flow.proofs.BlocksLemmas.FloatLists.{floats_same}

pub same_place : (a b : Place) → a.x.0 ≡ b.x.0 → a.y.0 ≡ b.y.0 → a ≡ b
same_place a b e f = let g = same_length a.x b.x e in let h = same_length a.y b.y f in λ i. record { x = g i; y = h i }

module _ (boxes : List FlowBox) (tree : IsTree (parents_of boxes)) (are : IsFlowTree boxes) (f g : Flow) (is : IsFlowByClearances boxes f) (also : IsFlowByClearances boxes g) where
  -- floats and solid boxes stand by their marks
  abbrev pub SameMarks : ℕ → Type 0
  SameMarks n = (j : ℕ) → j < n → length_at f.layout.places.marks j ≡ length_at g.layout.places.marks j

  abbrev pub SamePlaces : ℕ → Type 0
  SamePlaces n = (j : ℕ) → j < n → spot_at f.places j ≡ spot_at g.places j

  module _ (k : ℕ) (positive : 0 < k) (within : k < length boxes) (marks : SameMarks (k + 1)) (before : SamePlaces k) where
    floats_to : floats_before boxes f.places k ≡ floats_before boxes g.places k
    floats_to = floats_same boxes f.places g.places k before

    mark_here : length_at f.layout.places.marks k ≡ length_at g.layout.places.marks k
    mark_here = marks k (omega arith)

    place_here : (o : Option Side) → (shape_at boxes k).float ≡ o → (b : Bool) → is_solid (block_at boxes k).inside ≡ b → place_at f.places k ≡ place_at g.places k
    place_here (Some side) e b solid =
        let up = parent_before boxes tree k positive within in
        let over = marks (parent_at boxes k) (omega (arith, up)) in
        let mine = mark_here in
        let top : ceiling boxes f.layout.places.marks k ≡ ceiling boxes g.layout.places.marks k = rw (mine, over) refl in
        let a = is.float k side positive within e in
        let c = subst (λ (fs : List Placed). IsFloatPlace fs (float_request (shape_at boxes k) side (ceiling boxes g.layout.places.marks k)) (place_at g.places k).x.0 (place_at g.places k).y.0) (sym floats_to) (also.float k side positive within e) in
        let d = subst (λ (v : ℤ). IsFloatPlace (floats_before boxes f.places k) (float_request (shape_at boxes k) side v) (place_at g.places k).x.0 (place_at g.places k).y.0) (sym top) c in
        let both = one_float_place_lem (floats_before boxes f.places k) (float_request (shape_at boxes k) side (ceiling boxes f.layout.places.marks k)) _ _ _ _ a d in
        same_place (place_at f.places k) (place_at g.places k) both.0 both.1
    place_here None e true solid =
        let mine = mark_here in
        let a = is.solid k positive within solid in
        let c = subst (λ (fs : List Placed). IsSolidPlace fs (solid_request (shape_at boxes k) (length_at g.layout.places.marks k)) (place_at g.places k).x.0 (place_at g.places k).y.0) (sym floats_to) (also.solid k positive within solid) in
        let d = subst (λ (v : ℤ). IsSolidPlace (floats_before boxes f.places k) (solid_request (shape_at boxes k) v) (place_at g.places k).x.0 (place_at g.places k).y.0) (sym mine) c in
        let both = one_solid_place_lem (floats_before boxes f.places k) (solid_request (shape_at boxes k) (length_at f.layout.places.marks k)) _ _ _ _ a d in
        same_place (place_at f.places k) (place_at g.places k) both.0 both.1
    place_here None e false solid = is.no_place_else k positive within e solid ∙ sym (also.no_place_else k positive within e solid)

  module _ (k : ℕ) (within : k < length boxes) (marks : SameMarks (k + 1)) (before : SamePlaces k) where
    -- and so do lines
    lines_here : (b : Bool) → is_lines (block_at boxes k).inside ≡ b → lines_at f.places k ≡ lines_at g.places k
    lines_here true lines =
        let mark = marks k (omega arith) in
        let floats = floats_same boxes f.places g.places k before in
        let kind = (box_at boxes k).kind in
        let c = subst (λ (v : ℤ). AreLines (line_content_of kind) (content_of kind).left (content_of kind).right (v +ℤ (block_at boxes k).edge_top.0) (floats_before boxes g.places k) (lines_at g.places k)) (sym mark) (also.lines k within lines) in
        let d = subst (λ (fs : List Placed). AreLines (line_content_of kind) (content_of kind).left (content_of kind).right (length_at f.layout.places.marks k +ℤ (block_at boxes k).edge_top.0) fs (lines_at g.places k)) (sym floats) c in
        one_line_list (line_content_of kind) (content_of kind).left (content_of kind).right _ _ _ _ (is.lines k within lines) d
    lines_here false none = is.no_lines_else k within none ∙ sym (also.no_lines_else k within none)

    place_too : place_at f.places k ≡ place_at g.places k
    place_too = elim (cases_eq k 0) [
      | inl z ↦ subst (λ (k : ℕ). place_at f.places k ≡ place_at g.places k) (sym z) (is.no_place_root ∙ sym also.no_place_root)
      | inr ne ↦ place_here k (omega (arith, ne)) within marks before (shape_at boxes k).float refl (is_solid (block_at boxes k).inside) refl
    ]

    spot_here : spot_at f.places k ≡ spot_at g.places k
    spot_here = let p = place_too in let l = lines_here (is_lines (block_at boxes k).inside) refl in λ i. record { place = p i; lines = l i }

  pub places_to : (n : ℕ) → n ≤ length boxes → SameMarks n → SamePlaces n
  places_to zero le marks = λ j lt. absurd (omega (arith, lt))
  places_to (suc k) le marks =
      let before = places_to k (omega (arith, le)) (λ j lt. marks j (omega (arith, lt))) in
      λ j lt. elim (cases_lt j k) [
        | inl low ↦ before j low
        | inr ge ↦ (let e : j ≡ k = omega (arith, lt, ge) in subst (λ (j : ℕ). spot_at f.places j ≡ spot_at g.places j) (sym e)
            (spot_here k (omega (arith, le)) (λ j lt. marks j (omega (arith, lt))) before))
      ]

  -- and so their depths
  pub extent_placed : (k : ℕ) → k < length boxes → is_placed (block_at boxes k).inside ≡ true → SameMarks (k + 1) → length_at f.layout.extents.depths k ≡ length_at g.layout.extents.depths k
  extent_placed k within placed marks =
      let place = places_to (k + 1) (omega (arith, within)) marks k (omega arith) in
      let mark = marks k (omega arith) in
      elim (placed_one (block_at boxes k).inside placed) [
        | inl lines ↦ is.lines_extent k within lines ∙ (λ i. (place i).lines.end.0 -ℤ (mark i +ℤ (block_at boxes k).edge_top.0)) ∙ sym (also.lines_extent k within lines)
        | inr solid ↦ (let positive = solid_inner k solid in
            is.solid_extent k positive within solid ∙ (λ i. (place i).place.y.0 -ℤ mark i +ℤ (shape_at boxes k).height.0) ∙ sym (also.solid_extent k positive within solid))
      ]
    where
      solid_inner : (k : ℕ) → is_solid (block_at boxes k).inside ≡ true → 0 < k
      solid_inner k solid = elim (cases_lt 0 k) [
        | inl low ↦ low
        | inr ge ↦ (let z : k ≡ 0 = omega (arith, ge) in absurd (true_false (is_solid (block_at boxes 0).inside) (ap (λ (j : ℕ). is_solid (block_at boxes j).inside) (sym z) ∙ solid) (root_not_solid boxes are)))
      ]

  pub extent_other : (k : ℕ) → k < length boxes → is_placed (block_at boxes k).inside ≡ false → length_at f.layout.extents.depths k ≡ length_at g.layout.extents.depths k
  extent_other k within flows = is.no_extent k within flows ∙ sym (also.no_extent k within flows)
