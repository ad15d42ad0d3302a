-- A box has a place beside the floats before it, and lines if it holds any.
use Rattle.std.proofs.Common.{◌≡◌, ℕ, true, false, ℤ, pos, ◌+ℤ◌, ◌-ℤ◌, List, refl, sym, ap, ◌∙◌, Option, Some, None, subst}
use Rattle.std.proofs.lemmas.Option.{none-some, same_Some}
use Rattle.lay_floats.specs.declared.placed.Placed.{Placed}
use Rattle.lay_floats.specs.declared.requests.Side.{Side}
use Rattle.lay_floats.specs.FloatPlace.{IsFloatPlace}
use Rattle.lay_floats.specs.SolidPlace.{IsSolidPlace}
use Rattle.lay_lines.specs.Laws.{SomeLines}
use Rattle.lay_lines.specs.Lines.{AreLines}
use Rattle.lay_flow.specs.declared.blocks.flow_box.FlowBox.{FlowBox}
use Rattle.lay_flow.specs.declared.blocks.block.Block.{Block}
use Rattle.lay_flow.specs.declared.blocks.block.Inside.{Inside}
use Rattle.lay_flow.specs.declared.blocks.block.Inside.TheVariants.{Blocks as blocks_inside, Lines as lines_inside, Solid as solid_inside}
use Rattle.lay_flow.specs.Blocks.Boxes.{box_at}
use Rattle.lay_flow.specs.Blocks.MarginRuns.{block_at}
use Rattle.lay_flow.specs.Blocks.BlockPositions.{is_lines, is_placed, is_solid}
use Rattle.lay_flow.specs.Blocks.BlockFloats.{Spot, content_of, float_request, line_content_of, no_lines, no_place, shape_at, solid_request}
use Rattle.lay_flow.proofs.Cited.{some_float_place_lem, some_solid_place_lem}
use Rattle.lay_flow.proofs.BlocksLemmas.BlockKinds.{lines_placed}
use Rattle.lay_flow.proofs.BlocksLemmas.FlowBoxFacts.{placed_flows, solid_flows}
use Rattle.lay_flow.proofs.BlocksLemmas.Truths.{true_false}

-- the box at k stands at this spot beside these floats, by its mark and by the ceiling that it has as a float
pub record Stands (boxes : List FlowBox) (k : ℕ) (floats : List Placed) (mark top : ℤ) (spot : Spot) (depth : ℤ) : Type 0 where
  pub float : (side : Side) → (shape_at boxes k).float ≡ Some side → IsFloatPlace floats (float_request (shape_at boxes k) side top) spot.place.x.0 spot.place.y.0
  pub solid : is_solid (block_at boxes k).inside ≡ true → IsSolidPlace floats (solid_request (shape_at boxes k) mark) spot.place.x.0 spot.place.y.0
  pub nowhere : (shape_at boxes k).float ≡ None → is_solid (block_at boxes k).inside ≡ false → spot.place ≡ no_place
  pub lines : is_lines (block_at boxes k).inside ≡ true
      → AreLines (line_content_of (box_at boxes k).kind) (content_of (box_at boxes k).kind).left (content_of (box_at boxes k).kind).right
      (mark +ℤ (block_at boxes k).edge_top.0) floats spot.lines
  pub lineless : is_lines (block_at boxes k).inside ≡ false → spot.lines ≡ no_lines
  pub solid_extent : is_solid (block_at boxes k).inside ≡ true → depth ≡ spot.place.y.0 -ℤ mark +ℤ (shape_at boxes k).height.0
  pub lines_extent : is_lines (block_at boxes k).inside ≡ true → depth ≡ spot.lines.end.0 -ℤ (mark +ℤ (block_at boxes k).edge_top.0)
  pub no_extent : is_placed (block_at boxes k).inside ≡ false → depth ≡ pos 0

pub stands_too : (boxes : List FlowBox) (k : ℕ) (floats others : List Placed) (mark mark' top top' : ℤ) (spot spot' : Spot) (depth depth' : ℤ)
    → floats ≡ others → mark ≡ mark' → top ≡ top' → spot ≡ spot' → depth ≡ depth' → Stands boxes k floats mark top spot depth → Stands boxes k others mark' top' spot' depth'
stands_too boxes k floats others mark mark' top top' spot spot' depth depth' a b c d e is =
    subst (λ (v : ℤ). Stands boxes k others mark' top' spot' v) e
    (subst (λ (v : Spot). Stands boxes k others mark' top' v depth) d
    (subst (λ (v : ℤ). Stands boxes k others mark' v spot depth) c
    (subst (λ (v : ℤ). Stands boxes k others v top spot depth) b
    (subst (λ (fs : List Placed). Stands boxes k fs mark top spot depth) a is))))

module _ (some_lines : SomeLines) (boxes : List FlowBox) (k : ℕ) (floats : List Placed) (mark top : ℤ) where
  abbrev pub Standing : Type 0
  Standing = (spot : Spot) × (depth : ℤ) × Stands boxes k floats mark top spot depth

  abbrev block_here : Block
  block_here = block_at boxes k

  as_float : (side : Side) → (shape_at boxes k).float ≡ Some side → Standing
  as_float side e =
      let p = some_float_place_lem floats (float_request (shape_at boxes k) side top) in
      let spot : Spot = record { place = record { x = record { 0 = p.0 }; y = record { 0 = p.1 } }; lines = no_lines } in (
        spot,
        pos 0,
        record {
          float = λ s f. let same : side ≡ s = same_Some side s (sym e ∙ f) in subst (λ (t : Side). IsFloatPlace floats (float_request (shape_at boxes k) t top) p.0 p.1) same p.2;
          solid = λ solid. absurd (none-some side (sym (solid_flows boxes k solid) ∙ e));
          nowhere = λ none flows. absurd (none-some side (sym none ∙ e));
          lines = λ lines. absurd (none-some side (sym (placed_flows boxes k (lines_placed block_here.inside lines)) ∙ e));
          lineless = λ none. refl;
          solid_extent = λ solid. absurd (none-some side (sym (solid_flows boxes k solid) ∙ e));
          lines_extent = λ lines. absurd (none-some side (sym (placed_flows boxes k (lines_placed block_here.inside lines)) ∙ e));
          no_extent = λ none. refl;
        },
      )

  in_flow : (shape_at boxes k).float ≡ None → (inside : Inside) → block_here.inside ≡ inside → Standing
  in_flow e blocks_inside i = (
    record { place = no_place; lines = no_lines },
    pos 0,
    record {
      float = λ side f. absurd (none-some side (sym e ∙ f));
      solid = λ solid. absurd (true_false (is_solid block_here.inside) solid (ap is_solid i));
      nowhere = λ none flows. refl;
      lines = λ lines. absurd (true_false (is_lines block_here.inside) lines (ap is_lines i));
      lineless = λ none. refl;
      solid_extent = λ solid. absurd (true_false (is_solid block_here.inside) solid (ap is_solid i));
      lines_extent = λ lines. absurd (true_false (is_lines block_here.inside) lines (ap is_lines i));
      no_extent = λ none. refl;
    },
  )
  in_flow e lines_inside i =
      let kind = (box_at boxes k).kind in
      let v = some_lines (line_content_of kind) (content_of kind).left (content_of kind).right (mark +ℤ block_here.edge_top.0) floats in (
        record { place = no_place; lines = v.0 },
        (v.0).end.0 -ℤ (mark +ℤ block_here.edge_top.0),
        record {
          float = λ side f. absurd (none-some side (sym e ∙ f));
          solid = λ solid. absurd (true_false (is_solid block_here.inside) solid (ap is_solid i));
          nowhere = λ none flows. refl;
          lines = λ lines. v.1;
          lineless = λ none. absurd (true_false (is_lines block_here.inside) (ap is_lines i) none);
          solid_extent = λ solid. absurd (true_false (is_solid block_here.inside) solid (ap is_solid i));
          lines_extent = λ lines. refl;
          no_extent = λ none. absurd (true_false (is_placed block_here.inside) (ap is_placed i) none);
        },
      )
  in_flow e solid_inside i =
      let p = some_solid_place_lem floats (solid_request (shape_at boxes k) mark) in
      let spot : Spot = record { place = record { x = record { 0 = p.0 }; y = record { 0 = p.1 } }; lines = no_lines } in (
        spot,
        p.1 -ℤ mark +ℤ (shape_at boxes k).height.0,
        record {
          float = λ side f. absurd (none-some side (sym e ∙ f));
          solid = λ solid. p.2;
          nowhere = λ none flows. absurd (true_false (is_solid block_here.inside) (ap is_solid i) flows);
          lines = λ lines. absurd (true_false (is_lines block_here.inside) lines (ap is_lines i));
          lineless = λ none. refl;
          solid_extent = λ solid. refl;
          lines_extent = λ lines. absurd (true_false (is_lines block_here.inside) lines (ap is_lines i));
          no_extent = λ none. absurd (true_false (is_placed block_here.inside) (ap is_placed i) none);
        },
      )

  pub some_standing : Standing
  some_standing = by_float (shape_at boxes k).float refl
    where
      by_float : (o : Option Side) → (shape_at boxes k).float ≡ o → Standing
      by_float None e = in_flow e block_here.inside refl
      by_float (Some side) e = as_float side e
