-- The boxes of a formatting context are moved in some way: from outer to inner boxes.
use Rattle.std.proofs.Common.{◌≡◌, ℕ, zero, suc, ◌<◌, ◌≤◌, List, [], ◌∷◌, ◌++◌, length, Option, refl, arith}
use Rattle.std.proofs.lemmas.List.{length_push}
use Rattle.lay_box_tree.specs.declared.box_tree.BoxNode.{BoxNode}
use Rattle.lay_box_tree.specs.ContextBoxes.{AreContextBoxes}
use Rattle.lay_sizes.specs.declared.sizing.BoxSizes.{BoxSizes}
use Rattle.lay_abspos.specs.declared.relative.offset.Offset.{Offset}
use Rattle.lay_abspos.specs.Relative.FormerParents.{AreFormerParents}
use Rattle.lay_abspos.specs.Relative.Laws.{SomeColumnOfMoves}
use Rattle.lay_abspos.specs.Relative.Moves.{move_at, move_of}
use Rattle.lay_abspos.proofs.RelativeLemmas.MoveSteps.{one_more}
use Rattle.lay_abspos.proofs.RelativeLemmas.SomeFormers.{some_formers}

-- those of the first n boxes
record MovesTo (boxes : List BoxNode) (sizes : List BoxSizes) (formers : List (Option ℕ)) (n : ℕ) : Type 0 where
  moves : List Offset
  count : length moves ≡ n
  each : (k : ℕ) → k < n → move_at moves k ≡ move_of boxes sizes formers moves k

moves_to : (boxes : List BoxNode) (sizes : List BoxSizes) (formers : List (Option ℕ)) → AreContextBoxes boxes → AreFormerParents boxes formers
    → (n : ℕ) → n ≤ length boxes → MovesTo boxes sizes formers n
moves_to boxes sizes formers are of zero le = record { moves = []; count = refl; each = λ k lt. absurd (omega (arith, lt)) }
moves_to boxes sizes formers are of (suc n) le =
    let so_far = moves_to boxes sizes formers are of n (omega (arith, le)) in
    let next = move_of boxes sizes formers so_far.moves n in
    let counted = so_far.count in
    let longer = length_push so_far.moves next in
    record {
      moves = so_far.moves ++ next ∷ [];
      count = omega (arith, counted, longer);
      each = λ k lt. one_more boxes sizes formers so_far.moves n next are of (omega (arith, le)) so_far.count so_far.each refl k (omega (arith, lt));
    }

pub some_column_of_moves_lem : SomeColumnOfMoves
some_column_of_moves_lem boxes sizes are =
    let formers = some_formers boxes are.tree in
    let all = moves_to boxes sizes formers.0 are formers.1 (length boxes) (omega arith) in
    (all.moves, record { formers = formers.0; are_formers = formers.1; count = all.count; each = all.each })
