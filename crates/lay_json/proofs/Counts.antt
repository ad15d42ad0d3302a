-- The number of items is the length of the list that they are read from.
use Rattle.std.proofs.Common.{◌≡◌, refl, ap, suc, List, [], ◌∷◌, length}
use Rattle.serde_json.specs.View.{items_view}
use Rattle.serde_json.specs.declared.value.Value.{Value}
use Rattle.lay_json.specs.Fields.{count_of_items}

pub count_of_view : (vs : List Value) → count_of_items (items_view vs) ≡ length vs
count_of_view [] = refl
count_of_view (v ∷ vs) = ap suc (count_of_view vs)
