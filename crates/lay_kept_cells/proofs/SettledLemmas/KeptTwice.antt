-- Contexts whose cells stay through one edit and another keep them through both.
use Rattle.std.proofs.Common.{◌≡◌, ℕ, zero, suc, ◌<◌, ◌||◌, Bool, List, [], ◌∷◌, length, refl, arith, ap, sym, ◌∙◌}
use Rattle.std.proofs.lemmas.Bool.{or_parts}
use Rattle.lay_contexts.specs.Contexts.{Context}
use Rattle.lay_shape.specs.KeptShapes.KeptBoxes.{KeepCells}
use Rattle.lay_after_edits.specs.Contexts.Links.{is_made}
use Rattle.lay_kept_cells.specs.Settled.Since.{either}

pub either_count : (xs ys : List Bool) → length (either xs ys) ≡ length xs
either_count [] ys = refl
either_count (x ∷ xs) [] = refl
either_count (x ∷ xs) (y ∷ ys) = ap suc (either_count xs ys)

either_made : (xs ys : List Bool) → length ys ≡ length xs → (i : ℕ) → is_made (either xs ys) i ≡ (is_made xs i || is_made ys i)
either_made [] [] e i = refl
either_made [] (y ∷ ys) e i = absurd (omega (arith, e))
either_made (x ∷ xs) [] e i = absurd (omega (arith, e))
either_made (x ∷ xs) (y ∷ ys) e zero = refl
either_made (x ∷ xs) (y ∷ ys) e (suc i) = either_made xs ys (omega (arith, e)) i

pub kept_twice : (before contexts later : List Context) (changed made : List Bool) → KeepCells before contexts changed → KeepCells contexts later made
    → KeepCells before later (either changed made)
kept_twice before contexts later changed made p q = record {
  boxes = record {
    nodes = record {
      count = q.boxes.nodes.count ∙ p.boxes.nodes.count;
      each = λ i lt. q.boxes.nodes.each i (within i lt) ∙ p.boxes.nodes.each i lt;
    };
    flags = either_count changed made ∙ p.boxes.flags;
    kept = λ i lt same. (let both = or_parts (is_made changed i) (is_made made i) (sym (either_made changed made flags i) ∙ same) in
        q.boxes.kept i (within i lt) both.1 ∙ p.boxes.kept i lt both.0);
  };
  shape = q.shape ∙ p.shape;
}
  where
    within : (i : ℕ) → i < length before → i < length contexts
    within i lt = let e = p.boxes.nodes.count in omega (arith, lt, e)

    flags : length made ≡ length changed
    flags = q.boxes.flags ∙ p.boxes.nodes.count ∙ sym p.boxes.flags
