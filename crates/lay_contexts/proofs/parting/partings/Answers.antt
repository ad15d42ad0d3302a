use Rattle.std.proofs.Common.{rules, ◌≡◌, length, slice_index, ◌∙◌, arith}
use Rattle.lay_contexts.specs.Contexts.{boxes_in}
use Rattle.lay_contexts.specs.FormattingContextList.{first_number}
use Rattle.lay_contexts.specs.Partings.{IsParting}
use Rattle.lay_contexts.proofs.GrowingColumns.{next_number, one_parting}
use Rattle.lay_contexts.proofs.parting.partings.Goals as goal

pub loop-i-preserved : goal.loop-i-preserved
loop-i-preserved c =
    let contexts = c.args.contexts.now in
    let i = c.loop-i.i in
    let p = c.in_ok-parting.parting in
    let boxes : c.as_slice-boxes.result.now ≡ boxes_in contexts i = search rules in
    let first = c.loop-i.invariant.1 in
    let is : IsParting (boxes_in contexts i) (first_number contexts i) p = rw (boxes, first) at (c.in_ok-parting.ensures {u = tt}) in
    let pushed = (c.in_ok-push.ensures {u = tt}).items in
    let next = next_number contexts i p is in
    let number : c.number-first.result ≡ slice_index p.numbers (length (boxes_in contexts i)) = rw boxes at c.number-first.ensures in
    (rw pushed (one_parting contexts c.loop-i.partings.items p i c.loop-i.invariant.0 is), number ∙ next.0, omega (arith, number, next.1))
