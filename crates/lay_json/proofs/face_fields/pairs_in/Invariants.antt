use Rattle.std.proofs.Common.{◌≡◌, ◌≤◌, [], drop}
use Rattle.std.specs.List.{All}
use Rattle.serde_json.specs.View.{items_view}
use Rattle.lay_face.specs.declared.pairs.AdvancePair.{AdvancePair as Pair}
use Rattle.lay_json.specs.FaceFields.{pairs_from}
use Rattle.lay_json.proofs.face_fields.pairs_in.Given as goal

abbrev pub invariant-loop-value : goal.invariant-loop-value
invariant-loop-value l = record {
  goes_on : pairs_from l.pairs.items (items_view (drop l.value-index l.items)) ≡ pairs_from [] (items_view l.items);
  advances : All (λ (p : Pair). p.advance ≤ 10000) l.pairs.items;
}
