use Rattle.std.proofs.Common.{◌≡◌, drop}
use Rattle.serde_json.specs.View.{items_view}
use Rattle.lay_json.specs.FaceFields.{are_pairs}
use Rattle.lay_json.proofs.face_fields.are_pairs.Given as goal

abbrev pub invariant-loop-value : goal.invariant-loop-value
invariant-loop-value l = are_pairs (items_view (drop l.value-index l.items)) ≡ are_pairs (items_view l.items)
