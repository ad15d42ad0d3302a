use Rattle.std.proofs.Common.{◌≡◌, ◌+◌, ◌-◌, Some, length, slice_get, refl, arith}
use Rattle.std.proofs.lemmas.Option.{slice_get_read}
use Rattle.lay_table_sizes.proofs.AutoSteps.{captions_step}
use Rattle.lay_table_sizes.proofs.caption_widths.captions_minimum.Goals as goal

pub loop-done-preserved : goal.loop-done-preserved
loop-done-preserved c =
    let boxes = c.args.boxes.now in
    let count = length boxes in
    let done = c.loop-done.done in
    let more = c.loop-done-test.true in
    let next : count - done ≡ (count - (done + 1)) + 1 = omega (arith, more) in
    let from = rw next at c.loop-done.invariant in
    let place : count - 1 - done ≡ count - (done + 1) = omega (arith, more) in
    let read : slice_get boxes (count - 1 - done) ≡ Some c.index-boxes-k.result = slice_get_read boxes count (count - 1 - done) c.index-boxes-k.result refl (omega (arith, more)) c.index-boxes-k.is in
    let at = rw place at read in
    let step = rw (c.widths_at.ensures, place) at c.in_ok-least.ensures in
    captions_step c.args.inner.now boxes (count - (done + 1)) c.index-boxes-k.result c.loop-done.least.0 c.in_ok-least.least.0 at from step
