use Rattle.std.proofs.Common.{◌≡◌, ◌++◌, drop}
use Rattle.serde_json.specs.View.{items_view}
use Rattle.lay_json.specs.Listing.{ids_in}
use Rattle.lay_json.proofs.listing.list_nodes.Given as goal

abbrev pub invariant-loop-node : goal.invariant-loop-node
invariant-loop-node l = l.listed ++ ids_in (items_view (drop l.node-index l.nodes)) ≡ l.fn.listed ++ ids_in (items_view l.nodes)
