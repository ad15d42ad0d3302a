use Rattle.std.proofs.Common.{◌∙◌, List, [], length, ap, arith, sym, subst}
use Rattle.std.proofs.lemmas.List.Elements.{All-push}
use Rattle.lay_units.specs.declared.length.Unit.{Unit}
use Rattle.lay_units.specs.Units.{IsPosition}
use Rattle.lay_grid.specs.Heights.{IsLowest, AreLowest}
use Rattle.lay_grid.specs.Lengths.{ArePositions}
use Rattle.lay_grid.proofs.HeightSteps.{lowest_more, needs_below}
use Rattle.lay_grid.proofs.SharedSteps.{length_push}
use Rattle.lay_grid.proofs.heights.rows.Goals as goal

pub row_height-height-requires-clause-needs : goal.row_height-height-requires-clause-needs
row_height-height-requires-clause-needs c =
    needs_below _ _ _ _ _ _ _ _ _ c.as_slice.ensures c.in_ok-needs.ensures c.loop-row-test.true (c.as_slice-in-loop-row-2.ensures ∙ c.index.ensures)
    c.as_slice-in-loop-row.ensures.value c.loop-row.invariant.as_many

pub loop-row-preserved : goal.loop-row-preserved
loop-row-preserved c =
    let s = c.row_height-height.ensures in
    let i = c.loop-row.invariant in
    let h = c.row_height-height.result in
    let e = (c.in_ok-push.ensures {u = tt}).items in
    let low = subst (λ (xs : List Unit). IsLowest c.args.r.now xs h.0) c.as_slice-in-loop-row.ensures.value s.lowest in
    let m = length_push c.loop-row.heights.items h in
    let n = ap length e in
    let k = i.as_many in
    record {
      lowest = subst (λ (xs : List Unit). AreLowest c.args.r.now [] xs) (sym e) (lowest_more c.args.r.now [] c.loop-row.heights.items h i.lowest low);
      fits = subst ArePositions (sym e) (All-push (λ (height : Unit). IsPosition height.0) c.loop-row.heights.items h i.fits s.fits);
      as_many = omega (arith, m, n, k);
    }
