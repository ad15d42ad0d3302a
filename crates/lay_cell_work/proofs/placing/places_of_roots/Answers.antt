use Rattle.std.proofs.Common.{◌∙◌, ◌+◌, ◌-◌, ◌<◌, List, ap, length, slice_index_or, subst, arith}
use Rattle.lay_context.specs.Local.{IsLocal}
use Rattle.lay_context.specs.declared.value.Value.TheVariants as value
use Rattle.lay_cell_work.specs.CellInputs.{RootInput}
use Rattle.lay_cell_work.specs.CellLocal.{whole_input}
use Rattle.lay_cell_work.specs.CellValues.{Places}
use Rattle.lay_cell_work.proofs.RootSteps.{AreRightFrom, IsRightAt, one_more_places, root_is, set_count}
use Rattle.lay_cell_work.proofs.placing.places_of_roots.Goals as goal

pub loop-done-preserved : goal.loop-done-preserved
loop-done-preserved c =
    let i = c.args.input.now in
    let ws = c.loop-done.places.items in
    let w = c.in_ok-own.own in
    let roots = c.roots-roots.ensures.roots in
    let total = ap length roots in
    let inside = c.loop-done-test.true in
    let r = length c.roots-roots.result.now - 1 - c.loop-done.done in
    let lt : r < length i.roots = omega (arith, total, inside) in
    let is = c.index-roots-r.is ∙ ap (λ (xs : List RootInput). slice_index_or xs r c.index-roots-r.result) roots in
    let own = rw c.as_slice.ensures.value at (c.in_ok-own.ensures {u = tt}) in
    let local : IsRightAt i.roots (Places ws) r (value.Place w) = λ y there.
    subst (λ (x : RootInput). IsLocal (whole_input i.roots (Places ws) x) (value.Place w)) (root_is i.roots r c.index-roots-r.result y is there) (own i.roots) in
    let right : AreRightFrom i.roots (Places ws) (r + 1) = λ s x there le. c.loop-done.invariant.right s x there (omega (arith, le, total, inside)) in
    record {
      count = set_count ws r w ∙ c.loop-done.invariant.count;
      right = λ s x there le. one_more_places i c.roots-roots.ensures.fits r lt ws w c.loop-done.invariant.count local right s x there (omega (arith, le, total, inside));
    }
