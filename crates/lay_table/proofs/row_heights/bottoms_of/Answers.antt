use Rattle.std.proofs.Common.{◌≡◌, suc, ◌+◌, length, refl, arith}
use Rattle.std.proofs.lemmas.List.Elements.{All-push}
use Rattle.lay_grid.specs.RowsFit.{RowCellFits}
use Rattle.lay_table.proofs.row_heights.bottoms_of.Goals as goal

pub loop-c-preserved : goal.loop-c-preserved
loop-c-preserved c =
    let pushed = (c.in_ok-push.ensures {u = tt}).items in
    let found = c.in_ok-bottom_of.ensures {u = tt} in
    let inv = c.loop-c.invariant in
    let e : c.loop-c.c + 1 ≡ suc c.loop-c.c = omega arith in
    let is = found.bottom in
    let before = inv.are in
    record {
      are = rw (e, pushed, is, before) refl;
      fit = rw pushed (All-push (RowCellFits (length c.args.input.now.table.grid.rows)) c.loop-c.bottoms.items c.in_ok-bottom_of.field-0 inv.fit found.fits);
    }
