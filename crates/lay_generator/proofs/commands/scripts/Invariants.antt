use Rattle.std.proofs.Common.{◌≡◌, ◌≤◌, ◌+◌, ◌-◌, ◌*◌, ◌++◌, length}
use Rattle.lay_run.specs.Scripts.{command_count, read_count}
use Rattle.lay_generator.specs.Commands.{scripts}
use Rattle.lay_generator.proofs.commands.scripts.Given as goal

abbrev pub invariant-loop-editor : goal.invariant-loop-editor
invariant-loop-editor l = record {
  scripts : l.scripts ++ scripts l.size (5 - l.editor) l.editor l.draws ≡ scripts l.size 4 1 l.fn.draws;
  lists : length l.scripts + 1 ≡ l.editor;
  commands : command_count l.scripts ≤ 1001 * length l.scripts;
  reads : read_count l.scripts ≤ length l.scripts;
}
