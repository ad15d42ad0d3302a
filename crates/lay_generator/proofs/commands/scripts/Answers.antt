use Rattle.std.proofs.Common.{◌≡◌, ◌∙◌, ◌+◌, ◌-◌, ◌<◌, ◌++◌, ◌∷◌, [], List, sym, ap, arith, append_assoc}
use Rattle.lay_history.specs.declared.edits.command.Cmd.{Cmd}
use Rattle.lay_generator.specs.Commands.{script, script_end, scripts}
use Rattle.lay_generator.proofs.Steps.{commands_counted, lists_counted, reads_counted, scripts_step}
use Rattle.lay_generator.proofs.commands.scripts.Goals as goal

pub push-requires-clause-lists : goal.push-requires-clause-lists
push-requires-clause-lists c = omega (arith, c.loop-editor.invariant.lists, c.loop-editor-test.true)

pub push-requires-clause-commands : goal.push-requires-clause-commands
push-requires-clause-commands c = omega (arith, c.loop-editor.invariant.lists, c.loop-editor.invariant.commands, c.in_ok-script.ensures.few, c.loop-editor-test.true)

pub push-requires-clause-reads : goal.push-requires-clause-reads
push-requires-clause-reads c = omega (arith, c.loop-editor.invariant.lists, c.loop-editor.invariant.reads, c.in_ok-script.ensures.reads, c.loop-editor-test.true)

pub loop-editor-preserved : goal.loop-editor-preserved
loop-editor-preserved c =
    let e = c.loop-editor.editor in
    let n = 5 - e in
    let some : 0 < n = omega (arith, c.loop-editor-test.true) in
    let fewer : 5 - (e + 1) ≡ n - 1 = omega arith in
    let one = script c.args.size e c.loop-editor.draws in
    let rest = scripts c.args.size (n - 1) (e + 1) (script_end c.args.size e c.loop-editor.draws) in
    let made = c.in_ok-script.ensures in
    let pushed : c.push.new.self ≡ c.loop-editor.scripts ++ one ∷ [] = c.in_ok-push.ensures.ok ∙ ap (λ (s : List Cmd). c.loop-editor.scripts ++ s ∷ []) made.script in
    rw (fewer, made.state, pushed) (record {
      scripts = append_assoc c.loop-editor.scripts (one ∷ []) rest ∙ (ap (λ (ss : List (List Cmd)). c.loop-editor.scripts ++ ss) (sym (scripts_step c.args.size n e c.loop-editor.draws some)) ∙ c.loop-editor.invariant.scripts);
      lists = lists_counted c.loop-editor.scripts one e c.loop-editor.invariant.lists;
      commands = commands_counted c.loop-editor.scripts one c.loop-editor.invariant.commands (rw made.script at made.few);
      reads = reads_counted c.loop-editor.scripts one c.loop-editor.invariant.reads (rw made.script at made.reads);
    })
