use Rattle.std.proofs.Common.{◌≡◌, drop}
use Rattle.serde_json.specs.View.{items_view}
use Rattle.lay_json.specs.Nodes.{put_nodes}
use Rattle.lay_json.proofs.nodes.put_nodes.Given as goal

abbrev pub invariant-loop-value : goal.invariant-loop-value
invariant-loop-value l = put_nodes l.doc (items_view (drop l.value-index l.values)) ≡ put_nodes l.fn.doc (items_view l.values)
