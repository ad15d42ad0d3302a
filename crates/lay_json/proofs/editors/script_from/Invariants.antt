use Rattle.std.proofs.Common.{◌≡◌, ◌≤◌, ◌+◌, [], length, drop}
use Rattle.serde_json.specs.View.{items_view}
use Rattle.lay_run.specs.Scripts.{reads_of, command_count, read_count}
use Rattle.lay_json.specs.Editors.{script_from}
use Rattle.lay_json.proofs.editors.script_from.Given as goal

abbrev pub invariant-loop-value : goal.invariant-loop-value
invariant-loop-value l = record {
  goes_on : script_from l.before l.own (items_view (drop l.value-index l.values)) ≡ script_from l.before [] (items_view l.values);
  commands : command_count l.before + length l.own ≤ 8192;
  reads : read_count l.before + reads_of l.own ≤ 256;
}
