use Rattle.std.proofs.Common.{◌≡◌, []}
use Rattle.serde_json.specs.View.{members_view}
use Rattle.lay_json.specs.NodeForms.{declarations_from}
use Rattle.lay_json.proofs.new_node.declarations_in.Given as goal

abbrev pub invariant-loop-name : goal.invariant-loop-name
invariant-loop-name l = declarations_from l.decls (members_view l.name-iterator) ≡ declarations_from [] (members_view l.members.entries)
