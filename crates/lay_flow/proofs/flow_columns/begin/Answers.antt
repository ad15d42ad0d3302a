use Rattle.std.proofs.Common.{rules, ◌≡◌, List, Bool, length, replicate, false, None, refl, ap, ◌∙◌, arith}
use Rattle.std.proofs.lemmas.Grind.{elements}
use Rattle.lay_units.specs.declared.length.Unit.{Unit as Length}
use Rattle.lay_units.specs.Lengths.{no_length}
use Rattle.lay_flow.specs.declared.blocks.block.Block.{Block}
use Rattle.lay_flow.specs.Blocks.Lengths.{length_at}
use Rattle.lay_flow.specs.Blocks.Children.{flag_at}
use Rattle.lay_flow.specs.Blocks.Weights.{weight}
use Rattle.lay_flow.specs.Pass.Bounds.{clears_of, clear_edges_of, state_of}
use Rattle.lay_flow.specs.Pass.Known.{placing_of}
use Rattle.lay_flow.specs.declared.pass.RunStart.TheVariants.{At as starts_at}
use Rattle.lay_flow.proofs.PassEnds.{knows_first, flags_at, lengths_at, no_edges, none_cleared}
use Rattle.lay_flow.proofs.FirstPlaced.{IsEmpty, none_placed, none_placed_to, first_extents, mark_near_none}
use Rattle.lay_flow.proofs.PlacedOn.{placed_to}
use Rattle.lay_flow.proofs.flow_columns.begin.Goals as goal

pub invariant_of-marked-clause-count : goal.invariant_of-marked-clause-count
invariant_of-marked-clause-count c =
    let n = length c.args.boxes.now.list.now in
    let marks : c.in_ok-marks.marks.items ≡ replicate n no_length = c.in_ok-marks.ensures.items_if_clones_equal (λ y e. e) in
    rw c.deref.ensures.value (ap (λ (xs : List Length). length xs) marks ∙ grind (arith, elements))

pub invariant_of-marked-clause-near : goal.invariant_of-marked-clause-near
invariant_of-marked-clause-near c j =
    let n = length c.args.boxes.now.list.now in
    let marks : c.in_ok-marks.marks.items ≡ replicate n no_length = c.in_ok-marks.ensures.items_if_clones_equal (λ y e. e) in
    rw c.deref.ensures.value (mark_near_none (weight c.args.boxes.now.list.now j) _ (ap (λ (xs : List Length). length_at xs j) marks ∙ lengths_at n j))

pub place_up_to-requires-clause-order : goal.place_up_to-requires-clause-order
place_up_to-requires-clause-order c =
    let made = c.in_ok-placing.ensures {u = tt} in
    let e : length c.in_ok-placing.placing.places.items ≡ 0 = ap length made.places in
    omega (arith, e)

pub place_up_to-requires-clause-known : goal.place_up_to-requires-clause-known
place_up_to-requires-clause-known c =
    let made = c.in_ok-placing.ensures {u = tt} in
    none_placed c.args.boxes.now.list.now _ c.in_ok-placing.placing (record { extents = made.extents; floats = made.floats; places = made.places; rows = made.rows; met = made.met })

pub returns : goal.returns
returns c =
    let n = length c.args.boxes.now.list.now in
    let marks : c.in_ok-marks.marks.items ≡ replicate n no_length = c.in_ok-marks.ensures.items_if_clones_equal (λ y e. e) in
    let heights : c.in_ok-vec.field-0.items ≡ replicate n no_length = c.in_ok-vec.ensures.items_if_clones_equal (λ y e. e) in
    let through : c.in_ok-vec-2.field-0.items ≡ replicate n false = c.in_ok-vec-2.ensures.items_if_clones_equal (λ y e. e) in
    let none : c.in_ok-vec-3.field-0.items ≡ replicate n None = c.in_ok-vec-3.ensures.items_if_clones_equal (λ y e. search rules) in
    let clears : clears_of c.in_ok-vec-3.field-0.items ≡ replicate n false = ap clears_of none ∙ none_cleared n in
    let edges : clear_edges_of c.in_ok-vec-3.field-0.items ≡ replicate n no_length = ap clear_edges_of none ∙ no_edges n in
    let made = c.in_ok-placing.ensures {u = tt} in
    let done = c.in_ok-place_up_to.ensures {u = tt} in
    let placing = c.place_up_to.new.placing in
    let empty : IsEmpty c.in_ok-placing.placing n = record { extents = made.extents; floats = made.floats; places = made.places; rows = made.rows; met = made.met } in
    let goes = rw c.deref.ensures.value at (none_placed_to c.args.boxes.now.list.now _ c.in_ok-placing.placing empty placing done.placed) in
    record {
      places = goes.places;
      are = goes.are;
      knows =
          knows_first c.args.boxes.now.list.now c.args.boxes.now.are
          (state_of (record { marks = c.in_ok-marks.marks; heights = c.in_ok-vec.field-0; through = c.in_ok-vec-2.field-0; clear_edges = c.in_ok-vec-3.field-0; start = starts_at c.block.result.edge_top; strut = c.no_margin.result; first = 1; placing = placing }))
          (placing_of placing goes.places) (placed_to _ _ _ _ goes _ done.count) (first_extents c.args.boxes.now.list.now c.in_ok-marks.marks.items c.in_ok-placing.placing empty placing done.kept)
          (ap (λ (xs : List Length). length xs) marks ∙ grind (arith, elements))
          (ap (λ (xs : List Length). length xs) heights ∙ grind (arith, elements))
          (ap (λ (xs : List Bool). length xs) through ∙ grind (arith, elements))
          (ap (λ (xs : List Bool). length xs) clears ∙ grind (arith, elements))
          (ap (λ (xs : List Length). length xs) edges ∙ grind (arith, elements))
          (omega arith) refl c.no_margin.ensures c.no_margin.result.fits
          (ap (λ (b : Block). b.edge_top.0) c.block.ensures.value)
          (λ j. ap (λ (xs : List Length). length_at xs j) marks ∙ lengths_at n j)
          (λ j. ap (λ (xs : List Length). length_at xs j) heights ∙ lengths_at n j)
          (λ j. ap (λ (xs : List Bool). flag_at xs j) through ∙ flags_at n j)
          (λ j. ap (λ (xs : List Bool). flag_at xs j) clears ∙ flags_at n j)
          (λ j. ap (λ (xs : List Length). length_at xs j) edges ∙ lengths_at n j);
    }
