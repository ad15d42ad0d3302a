-- Tops that are given to anchors one after another.
use Rattle.std.proofs.Common.{◌≡◌, ℕ, List, [], ◌∷◌, length, Option, Some, None, refl, sym, ap, ◌∙◌, arith}
use Rattle.std.specs.Option.{option_or}
use Rattle.lay_units.specs.declared.length.Unit.{Unit as Length}
use Rattle.lay_box_tree.specs.declared.box_tree.BoxNode.{BoxNode}
use Rattle.lay_space.specs.declared.segment.Segment.{Segment}
use Rattle.lay_lines.specs.declared.row.Ended.{Ended}
use Rattle.lay_placement.specs.AnchorLines.{ArePut, top_at}
use Rattle.lay_placement.specs.StaticPositions.{line_top}

or_or : {X : Type 0} (a b c : Option X) → option_or (option_or a b) c ≡ option_or a (option_or b c)
or_or None b c = refl
or_or (Some x) b c = refl

-- some, and then others
pub put_more : (boxes : List BoxNode) (c : ℕ) (before between after : List (Option Length)) (f g h : ℕ → Option Length) → ((k : ℕ) → h k ≡ option_or (f k) (g k)) → ArePut boxes c before between f → ArePut boxes c between after g
    → ArePut boxes c before after h
put_more boxes c before between after f g h both first later = record {
  count = later.count ∙ first.count;
  here = λ k lt at. later.here k (omega (arith, lt, first.count)) at ∙ ap (λ (o : Option Length). option_or o (g k)) (first.here k lt at) ∙ or_or (top_at before k) (f k) (g k) ∙ ap (option_or (top_at before k)) (sym (both k));
  others = λ k lt other. later.others k (omega (arith, lt, first.count)) other ∙ first.others k lt other;
}

-- none, where there is no line
no_row : (rows : List Ended) → length rows ≡ 0 → rows ≡ []
no_row [] none = refl
no_row (row ∷ rows) none = absurd (omega (arith, none))

or_none : {X : Type 0} (o : Option X) → o ≡ option_or o None
or_none None = refl
or_none (Some x) = refl

pub put_none : (boxes : List BoxNode) (c : ℕ) (tops : List (Option Length)) (rows : List Ended) (segments : List Segment) → length rows ≡ 0 → ArePut boxes c tops tops (line_top rows segments)
put_none boxes c tops rows segments none = record {
  count = refl;
  here = λ k lt at. or_none (top_at tops k) ∙ ap (λ (rs : List Ended). option_or (top_at tops k) (line_top rs segments k)) (sym (no_row rows none));
  others = λ k lt other. refl;
}
