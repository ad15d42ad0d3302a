-- Where no box is relatively positioned, none is moved.
use Rattle.std.proofs.Common.{◌≡◌, ◌∙◌, ℕ, zero, suc, ◌<◌, false, List, length, replicate, Option, if◌then◌else◌, Bool, true, refl}
use Rattle.std.proofs.lemmas.List.{length-replicate}
use Rattle.lay_box_tree.specs.declared.box_tree.BoxNode.{BoxNode}
use Rattle.lay_box_tree.specs.Roles.{role_at}
use Rattle.lay_box_tree.specs.ContextBoxes.{AreContextBoxes}
use Rattle.lay_sizes.specs.declared.sizing.BoxSizes.{BoxSizes}
use Rattle.lay_abspos.specs.Relative.Moves.{HasMoves, NoneIsRelative, carrier, is_movable, move_at, move_of, own_offset}
use Rattle.lay_abspos.specs.Relative.RelativeOffsets.{no_offset}
use Rattle.lay_abspos.proofs.RelativeLemmas.SomeFormers.{some_formers}

none_at : (n k : ℕ) → move_at (replicate n no_offset) k ≡ no_offset
none_at zero k = refl
none_at (suc n) zero = refl
none_at (suc n) (suc k) = none_at n k

same_choice : (b : Bool) → (if b then no_offset else no_offset) ≡ no_offset
same_choice true = refl
same_choice false = refl

no_own : (boxes : List BoxNode) (sizes : List BoxSizes) (k : ℕ) → NoneIsRelative boxes → k < length boxes → own_offset boxes sizes k ≡ no_offset
no_own boxes sizes k none lt = rw (none k lt) (same_choice (is_movable (role_at boxes k)))

no_move : (boxes : List BoxNode) (sizes : List BoxSizes) (formers : List (Option ℕ)) (k : ℕ) → NoneIsRelative boxes → k < length boxes
    → no_offset ≡ move_of boxes sizes formers (replicate (length boxes) no_offset) k
no_move boxes sizes formers zero none lt = refl
no_move boxes sizes formers (suc k) none lt = rw (no_own boxes sizes (suc k) none lt, none_at (length boxes) (carrier boxes formers (suc k))) refl

pub none_moved : (boxes : List BoxNode) (sizes : List BoxSizes) → AreContextBoxes boxes → NoneIsRelative boxes → HasMoves boxes sizes (replicate (length boxes) no_offset)
none_moved boxes sizes are none =
    let formers = some_formers boxes are.tree in
    record {
      formers = formers.0;
      are_formers = formers.1;
      count = length-replicate (length boxes) no_offset;
      each = λ k lt. none_at (length boxes) k ∙ no_move boxes sizes formers.0 k none lt;
    }
