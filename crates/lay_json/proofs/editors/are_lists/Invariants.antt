use Rattle.std.proofs.Common.{◌≡◌, drop}
use Rattle.serde_json.specs.View.{items_view}
use Rattle.lay_json.specs.Editors.{are_lists}
use Rattle.lay_json.proofs.editors.are_lists.Given as goal

abbrev pub invariant-loop-editor : goal.invariant-loop-editor
invariant-loop-editor l = are_lists (items_view (drop l.editor-index l.editors)) ≡ are_lists (items_view l.editors)
