use Rattle.std.proofs.Common.{◌+◌, ◌<◌, sym, subst, arith, rules}
use Rattle.std.proofs.lemmas.Grind.{common_steps}
use Rattle.lay_sheet.specs.declared.selector.Step.{Step}
use Rattle.lay_cascade.specs.NodeNames.{fits}
use Rattle.lay_cascade.proofs.Masks.{IsMaskTo, mask_more}
use Rattle.lay_cascade.proofs.fitting.by_steps.Goals as goal

pub loop-j-preserved : goal.loop-j-preserved
loop-j-preserved c =
    let steps = c.args.window.now.steps.now in
    let from = c.args.window.now.from in
    let asks = λ (s : Step). fits c.args.names.now s.simple in
    let here : c.loop-j.j < c.args.window.now.count = first_of (search rules, grind (arith, common_steps)) in
    let most = c.requires.window.few in
    let few : c.loop-j.j < 64 = omega (arith, here, most) in
    subst (IsMaskTo steps from (c.loop-j.j + 1) asks) (sym c.with_told-word.ensures)
    (mask_more steps from c.loop-j.j asks c.loop-j.word c.step.result.now c.step.ensures c.loop-j.invariant c.fits-told.result few c.fits-told.ensures)
