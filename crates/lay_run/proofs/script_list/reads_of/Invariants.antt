use Rattle.std.proofs.Common.{◌≡◌, ◌+◌, ◌≤◌, drop}
use Rattle.lay_run.specs.Scripts.{reads_of}
use Rattle.lay_run.proofs.script_list.reads_of.Given as goal

abbrev pub invariant-loop-command : goal.invariant-loop-command
invariant-loop-command l = record {
  counted : l.reads + reads_of (drop l.command-index l.commands) ≡ reads_of l.commands;
  few : l.reads ≤ l.command-index;
}
