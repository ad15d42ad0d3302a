use Rattle.std.proofs.Common.{◌≡◌, [], length, drop}
use Rattle.serde_json.specs.View.{items_view}
use Rattle.lay_json.specs.Editors.{scripts_from}
use Rattle.lay_json.proofs.editors.scripts_from.Given as goal

abbrev pub invariant-loop-editor : goal.invariant-loop-editor
invariant-loop-editor l = record {
  goes_on : scripts_from l.scripts (items_view (drop l.editor-index l.editors)) ≡ scripts_from [] (items_view l.editors);
  count : length l.scripts ≡ l.editor-index;
}
