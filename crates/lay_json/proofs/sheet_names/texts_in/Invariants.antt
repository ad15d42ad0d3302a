use Rattle.std.proofs.Common.{◌≡◌, ◌++◌, drop}
use Rattle.serde_json.specs.View.{items_view}
use Rattle.lay_json.specs.SheetNames.{texts_in}
use Rattle.lay_json.proofs.sheet_names.texts_in.Given as goal

abbrev pub invariant-loop-item : goal.invariant-loop-item
invariant-loop-item l = l.texts.items ++ texts_in (items_view (drop l.item-index l.items)) ≡ texts_in (items_view l.items)
