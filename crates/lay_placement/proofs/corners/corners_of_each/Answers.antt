use Rattle.std.proofs.Common.{◌≡◌, ℕ, ap, ◌∙◌, arith, length}
use Rattle.lay_placements.specs.Corners.{corner_at}
use Rattle.lay_placement.specs.AtomicCorners.{corner_among}
use Rattle.lay_placement.specs.BoxStandings.{corner_in_flow}
use Rattle.lay_placement.specs.OnLines.{on_lines_to}
use Rattle.lay_placement.proofs.CornerColumns.{kept_is, with_box}
use Rattle.lay_placement.proofs.corners.corners_of_each.Goals as goal

pub loop-k-preserved : goal.loop-k-preserved
loop-k-preserved c =
    let put = c.in_ok-put_atomics.ensures {u = tt} in
    let inv = c.loop-k.invariant in
    let counted = ap length c.boxes-k-end.ensures.boxes in
    let said = c.on_lines_at.ensures ∙ c.requires.on_lines.each c.loop-k.k (omega (arith, c.loop-k-test.true, counted)) in
    record {
      count = put.count ∙ inv.count;
      each = λ j lt. with_box c.args.input.now c.args.places.now c.loop-k.k j c.on_lines_at.result.now (corner_in_flow c.args.places.now.places j)
          (corner_at c.loop-k.corners.items j) _ said (inv.each j lt) (put.each j (omega (arith, lt, inv.count)));
      near = put.near;
    }

pub returns-clause-each : goal.returns-clause-each
returns-clause-each c j lt =
    let inv = c.loop-k.invariant in
    let counted = ap length c.boxes-k-end.ensures.boxes in
    let done : c.loop-k.k ≡ length c.args.input.now.boxes = omega (arith, c.loop-k-test.false, c.loop-k.auto.k-end, counted) in
    kept_is c.args.places.now.places c.loop-k.corners.items j (omega (arith, lt, inv.count)) ∙ inv.each j lt ∙ ap (λ (n : ℕ). corner_among (on_lines_to c.args.input.now c.args.places.now n) j (corner_in_flow c.args.places.now.places j)) done
