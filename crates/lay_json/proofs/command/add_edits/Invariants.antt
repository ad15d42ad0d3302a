use Rattle.std.proofs.Common.{◌≡◌, ◌+◌, ◌++◌, length, drop}
use Rattle.serde_json.specs.View.{items_view}
use Rattle.lay_json.specs.Fields.{map_read}
use Rattle.lay_json.specs.Commands.{listed_edits}
use Rattle.lay_json.proofs.command.add_edits.Given as goal

abbrev pub invariant-loop-value : goal.invariant-loop-value
invariant-loop-value l = record {
  goes_on : map_read (λ es. l.edits ++ es) (listed_edits l.place (items_view (drop l.value-index l.values))) ≡ map_read (λ es. l.fn.edits ++ es) (listed_edits l.place (items_view l.values));
  count : length l.edits ≡ length l.fn.edits + l.value-index;
}
