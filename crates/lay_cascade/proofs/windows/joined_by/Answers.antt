use Rattle.std.proofs.Common.{◌+◌, ◌<◌, sym, subst, arith, rules}
use Rattle.std.proofs.lemmas.Grind.{common_steps}
use Rattle.lay_cascade.specs.Windows.{asks_joint}
use Rattle.lay_cascade.proofs.Masks.{IsMaskTo, mask_more}
use Rattle.lay_cascade.proofs.windows.joined_by.Goals as goal

pub loop-j-preserved : goal.loop-j-preserved
loop-j-preserved c =
    let steps = c.args.steps.now in
    let asks = asks_joint c.args.joint in
    let few : c.loop-j.j < 64 = first_of (search rules, grind (arith, common_steps)) in
    subst (IsMaskTo steps c.args.from (c.loop-j.j + 1) asks) (sym c.with_told-word.ensures)
    (mask_more steps c.args.from c.loop-j.j asks c.loop-j.word c.step_at.result.now c.step_at.ensures c.loop-j.invariant c.is_joined-told.result few c.is_joined-told.ensures)
