-- Lists of boxes that are the same but for their styles, one box after another.
use Rattle.std.proofs.Common.{◌≡◌, ◌<◌, ◌+◌, inl, inr, ℕ, List, length, ap, sym, ◌∙◌, arith, Some, option_map, slice_get, slice_index_or}
use Rattle.std.proofs.lemmas.Bool.{cases_lt}
use Rattle.std.proofs.lemmas.List.{length-map}
use Rattle.std.proofs.lemmas.Option.{slice_get-map}
use Rattle.lay_box_tree.specs.declared.box_tree.BoxNode.{BoxNode}
use Rattle.lay_after_edits.proofs.Cited.{at_place, same_lists}
use Rattle.lay_after_edits.specs.Contexts.Unstyled.{all_unstyled, unstyled}

read : (xs : List BoxNode) (k : ℕ) (x : BoxNode) → k < length xs → x ≡ slice_index_or xs k x → slice_get (all_unstyled xs) k ≡ Some (unstyled x)
read xs k x lt e = slice_get-map unstyled xs k ∙ ap (option_map unstyled) (at_place xs k x lt ∙ ap Some (sym e))

pub one-more-unstyled : (xs ys : List BoxNode) (k : ℕ) (x y : BoxNode) → ((m : ℕ) → m < k → slice_get (all_unstyled xs) m ≡ slice_get (all_unstyled ys) m)
    → k < length xs → k < length ys → x ≡ slice_index_or xs k x → y ≡ slice_index_or ys k y → unstyled x ≡ unstyled y
    → (m : ℕ) → m < k + 1 → slice_get (all_unstyled xs) m ≡ slice_get (all_unstyled ys) m
one-more-unstyled xs ys k x y before lt lu ex ey e m less = elim (cases_lt m k) [
  | inl low ↦ before m low
  | inr high ↦ (let z : m ≡ k = omega (arith, less, high) in
      ap (slice_get (all_unstyled xs)) z ∙ (read xs k x lt ex ∙ (ap Some e ∙ sym (ap (slice_get (all_unstyled ys)) z ∙ read ys k y lu ey))))
]

pub all-same : (xs ys : List BoxNode) → length xs ≡ length ys → ((m : ℕ) → m < length xs → slice_get (all_unstyled xs) m ≡ slice_get (all_unstyled ys) m) → all_unstyled xs ≡ all_unstyled ys
all-same xs ys count same =
    same_lists (all_unstyled xs) (all_unstyled ys) (length-map xs unstyled ∙ (count ∙ sym (length-map ys unstyled))) (λ m lt. same m (let l = length-map xs unstyled in omega (arith, lt, l)))
