-- First parts, of which some are last ones.
use Rattle.std.proofs.Common.{◌≡◌, ◌≢◌, ◌∙◌, ℕ, ◌+◌, ◌<◌, Bool, List, length, slice_set, get_or, ap, sym, arith, inl, inr}
use Rattle.std.proofs.lemmas.Bool.{cases_eq}
use Rattle.std.proofs.lemmas.Grind.{elements}
use Rattle.lay_box_tree.specs.declared.box_tree.BoxNode.{BoxNode}
use Rattle.lay_box_tree.specs.declared.inline_part.InlinePart.{InlinePart}
use Rattle.lay_box_tree.specs.InlineParts.{inline_part, is_first_part, is_last_part, no_part}

-- the first ones are known of all boxes, and the last ones of those before k
pub record PartsTo (boxes : List BoxNode) (parts : List InlinePart) (k : ℕ) : Type 0 where
  pub count : length parts ≡ length boxes
  pub first : (j : ℕ) → j < length boxes → (get_or parts j no_part).first ≡ is_first_part boxes j
  pub each : (j : ℕ) → j < k → get_or parts j no_part ≡ inline_part boxes j

set_here : (parts : List InlinePart) (k : ℕ) (p : InlinePart) → k < length parts → get_or (slice_set parts k p) k no_part ≡ p
set_here parts k p lt = grind (arith, elements, lt)

set_other : (parts : List InlinePart) (k j : ℕ) (p : InlinePart) → k ≢ j → get_or (slice_set parts k p) j no_part ≡ get_or parts j no_part
set_other parts k j p other = grind (arith, elements, other)

set_count : (parts : List InlinePart) (k : ℕ) (p : InlinePart) → length (slice_set parts k p) ≡ length parts
set_count parts k p = grind (arith, elements)

pub one_more : (boxes : List BoxNode) (parts : List InlinePart) (k : ℕ) (last : Bool) → PartsTo boxes parts k → k < length boxes → last ≡ is_last_part boxes k
    → PartsTo boxes (slice_set parts k (record { first = (get_or parts k no_part).first; last = last })) (k + 1)
one_more boxes parts k last so_far within e = record {
  count = set_count parts k new ∙ so_far.count;
  first = λ j lt. elim (cases_eq k j) [
    | inl same ↦ ap (λ (p : InlinePart). p.first) (here j same) ∙ so_far.first k within ∙ ap (is_first_part boxes) same
    | inr other ↦ ap (λ (p : InlinePart). p.first) (set_other parts k j new other) ∙ so_far.first j lt
  ];
  each = λ j lt. elim (cases_eq k j) [
    | inl same ↦ here j same ∙ (λ i. record { first = so_far.first k within i; last = e i }) ∙ ap (inline_part boxes) same
    | inr other ↦ set_other parts k j new other ∙ so_far.each j (omega (arith, other, lt))
  ];
}
  where
    new : InlinePart
    new = record { first = (get_or parts k no_part).first; last = last }

    here : (j : ℕ) → k ≡ j → get_or (slice_set parts k new) j no_part ≡ new
    here j same = ap (λ (n : ℕ). get_or (slice_set parts k new) n no_part) (sym same) ∙ set_here parts k new (omega (arith, within, so_far.count))
