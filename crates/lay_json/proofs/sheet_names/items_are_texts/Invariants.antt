use Rattle.std.proofs.Common.{◌≡◌, drop}
use Rattle.serde_json.specs.View.{items_view}
use Rattle.lay_json.specs.SheetNames.{items_are_texts}
use Rattle.lay_json.proofs.sheet_names.items_are_texts.Given as goal

abbrev pub invariant-loop-item : goal.invariant-loop-item
invariant-loop-item l = items_are_texts (items_view (drop l.item-index l.items)) ≡ items_are_texts (items_view l.items)
