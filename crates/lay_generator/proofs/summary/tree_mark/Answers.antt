use Rattle.std.proofs.Common.{◌∙◌, ◌+◌, sym, ap, drop}
use Rattle.lay_frag.specs.Pieces.{frags_of, page_pieces}
use Rattle.lay_generator.specs.Summary.{mark_from}
use Rattle.lay_generator.proofs.Steps.{at_place, drop_step, mark_more}
use Rattle.lay_generator.proofs.summary.tree_mark.Goals as goal

pub loop-placed-preserved : goal.loop-placed-preserved
loop-placed-preserved c =
    let k = c.loop-placed.placed-index in
    let contexts = c.args.contexts.now in
    let rest = frags_of (drop (k + 1) contexts) in
    let step = ap frags_of (drop_step contexts k c.placed-item.result (at_place contexts k c.placed-item.result c.loop-placed-test.true c.placed-item.is)) in
    ap (λ m. mark_from m rest) c.context_mark-mark.ensures
    ∙ (sym (mark_more c.loop-placed.mark (page_pieces c.placed-item.result) rest) ∙ (sym (ap (mark_from c.loop-placed.mark) step) ∙ c.loop-placed.invariant))
