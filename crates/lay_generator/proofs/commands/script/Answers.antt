use Rattle.std.proofs.Common.{◌≡◌, ◌∙◌, ◌+◌, ◌-◌, ◌<◌, ◌≤◌, ◌∷◌, [], length, sym, ap, arith, length-append}
use Rattle.lay_history.specs.declared.edits.command.Cmd.TheVariants.{Sync}
use Rattle.lay_generator.proofs.Batching.{few_batches}
use Rattle.lay_generator.proofs.Steps.{edits_step, state_after_step, few_more}
use Rattle.lay_generator.proofs.commands.script.Goals as goal

pub loop-section-preserved : goal.loop-section-preserved
loop-section-preserved c =
    let k = c.loop-section.section in
    let n = c.args.size - k in
    let state = c.loop-section.draws in
    let some : 0 < n = omega (arith, c.loop-section-test.true) in
    let fewer : c.args.size - (k + 1) ≡ n - 1 = omega arith in
    let pushed = c.in_ok-push_padding.ensures in
    rw (fewer, pushed.state, pushed.edits) (record {
      edits = sym (edits_step c.args.editor k n state c.loop-section.batches some) ∙ c.loop-section.invariant.edits;
      state = sym (state_after_step c.args.editor k n state some) ∙ c.loop-section.invariant.state;
      few = few_more c.args.editor k state c.loop-section.batches c.loop-section.invariant.few;
    })

pub returns-clause-few : goal.returns-clause-few
returns-clause-few c =
    let edits = c.loop-section.batches in
    let few : length edits ≤ 1000 = omega (arith, c.loop-section.invariant.few, c.loop-section-test.false, c.loop-section.auto.section-end, c.requires.size) in
    let sum : length c.push.new.self ≡ length c.in_ok-commands.commands + 1 = ap length c.in_ok-push.ensures.ok ∙ length-append c.in_ok-commands.commands (Sync ∷ []) in
    omega (arith, few_batches edits few, sum, ap length c.in_ok-commands.ensures)
