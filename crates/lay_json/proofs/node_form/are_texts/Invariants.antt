use Rattle.std.proofs.Common.{◌≡◌}
use Rattle.serde_json.specs.View.{members_view}
use Rattle.lay_json.specs.NodeForms.{are_texts}
use Rattle.lay_json.proofs.node_form.are_texts.Given as goal

abbrev pub invariant-loop-value : goal.invariant-loop-value
invariant-loop-value l = are_texts (members_view l.value-iterator) ≡ are_texts (members_view l.members.entries)
