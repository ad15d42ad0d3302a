use Rattle.std.proofs.Common.{◌≡◌, drop}
use Rattle.serde_json.specs.View.{items_view}
use Rattle.lay_json.specs.SheetNames.{names_from}
use Rattle.lay_json.proofs.sheet_names.add_all_names.Given as goal

abbrev pub invariant-loop-node : goal.invariant-loop-node
invariant-loop-node l = names_from l.names (items_view (drop l.node-index l.nodes)) ≡ names_from l.fn.names (items_view l.nodes)
