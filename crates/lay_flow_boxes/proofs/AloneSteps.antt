-- Boxes are left out that hold block-level boxes, and then those that are no block boxes.
use Rattle.std.proofs.Common.{◌≡◌, ◌≢◌, ◌∙◌, ℕ, ◌+◌, ◌<◌, ◌≤◌, ◌==◌, ◌&&◌, not, Bool, true, false, List, length, slice_set, nat_lt, refl, sym, ap, arith, inl, inr, add-one}
use Rattle.std.proofs.lemmas.Bool.{cases_eq}
use Rattle.std.proofs.lemmas.Grind.{elements}
use Rattle.lay_box_tree.specs.declared.box_tree.BoxNode.{BoxNode}
use Rattle.lay_box_tree.specs.Roles.{role_at}
use Rattle.lay_flow.specs.Blocks.Children.{flag_at}
use Rattle.lay_flow_boxes.specs.declared.inline_containers.Level.TheVariants.{Block as block, Inline as inline}
use Rattle.lay_box_tree.specs.Containing.{container_of}
use Rattle.lay_flow_boxes.specs.AloneInLines.{AreAlone}
use Rattle.lay_flow_boxes.specs.InlineContainers.{holds, is_block_box, is_inline_container, is_of}
use Rattle.lay_flow_boxes.proofs.InlineContainerSteps.{no_more, one_here, other_eq, other_more, positive_lt, same_eq}

set_here : (flags : List Bool) (k : ℕ) (b : Bool) → k < length flags → flag_at (slice_set flags k b) k ≡ b
set_here flags k b lt = grind (arith, elements, lt)

set_other : (flags : List Bool) (k j : ℕ) (b : Bool) → k ≢ j → flag_at (slice_set flags k b) j ≡ flag_at flags j
set_other flags k j b other = grind (arith, elements, other)

set_count : (flags : List Bool) (k : ℕ) (b : Bool) → length (slice_set flags k b) ≡ length flags
set_count flags k b = grind (arith, elements)

with_none : (h : Bool) → h ≡ (h && true)
with_none true = refl
with_none false = refl

with_one : (h : Bool) → false ≡ (h && false)
with_one true = refl
with_one false = refl

together : (a h n : Bool) → (a && (h && n)) ≡ (a && h && n)
together true h n = refl
together false h n = refl

-- before all boxes
pub alone_first : (boxes : List BoxNode) (flags : List Bool) → length flags ≡ length boxes → ((c : ℕ) → c < length boxes → flag_at flags c ≡ holds inline boxes c (length boxes))
    → AreAlone boxes flags 1
alone_first boxes flags count each = record { count = count; each = λ c lt. each c lt ∙ with_none (holds inline boxes c (length boxes)) }

-- with a box that isn't block-level
pub alone_same : (boxes : List BoxNode) (flags : List Bool) (n : ℕ) → AreAlone boxes flags n → is_of block boxes n ≡ false → AreAlone boxes flags (n + 1)
alone_same boxes flags n so_far is = record {
  count = so_far.count;
  each = λ c lt. so_far.each c lt ∙ rw (add-one n) (ap (λ (b : Bool). holds inline boxes c (length boxes) && not b)
      (sym (no_more (holds block boxes c n) (nat_lt 0 n) (container_of boxes n == c) (is_of block boxes n) is)));
}

-- with one that is
pub alone_less : (boxes : List BoxNode) (flags : List Bool) (n : ℕ) → AreAlone boxes flags n → 0 < n → container_of boxes n < length boxes → is_of block boxes n ≡ true
    → AreAlone boxes (slice_set flags (container_of boxes n) false) (n + 1)
alone_less boxes flags n so_far positive within is = record {
  count = set_count flags (container_of boxes n) false ∙ so_far.count;
  each = λ c lt. elim (cases_eq (container_of boxes n) c) [
    | inl here ↦ rw (add-one n) (ap (λ (j : ℕ). flag_at (slice_set flags (container_of boxes n) false) j) (sym here)
        ∙ set_here flags (container_of boxes n) false (omega (arith, within, so_far.count)) ∙ with_one (holds inline boxes c (length boxes))
        ∙ ap (λ (b : Bool). holds inline boxes c (length boxes) && not b)
        (sym (one_here (holds block boxes c n) (nat_lt 0 n) (container_of boxes n == c) (is_of block boxes n) (positive_lt n positive)
        (ap (λ (j : ℕ). container_of boxes n == j) (sym here) ∙ same_eq (container_of boxes n)) is)))
    | inr other ↦ rw (add-one n) (set_other flags (container_of boxes n) c false other ∙ so_far.each c lt
        ∙ ap (λ (b : Bool). holds inline boxes c (length boxes) && not b)
        (sym (other_more (holds block boxes c n) (nat_lt 0 n) (container_of boxes n == c) (is_of block boxes n) (other_eq (container_of boxes n) c other))))
  ];
}

-- the boxes before k are as they have to be, and of those behind no block box is left out
pub record LeftTo (boxes : List BoxNode) (flags : List Bool) (k : ℕ) : Type 0 where
  pub count : length flags ≡ length boxes
  pub done : (c : ℕ) → c < k → flag_at flags c ≡ is_inline_container boxes c
  pub rest : (c : ℕ) → k ≤ c → c < length boxes → flag_at flags c ≡ (holds inline boxes c (length boxes) && not (holds block boxes c (length boxes)))

pub left_more : (boxes : List BoxNode) (flags : List Bool) (k : ℕ) (b : Bool) → LeftTo boxes flags k → k < length boxes → b ≡ (is_block_box (role_at boxes k) && flag_at flags k)
    → LeftTo boxes (slice_set flags k b) (k + 1)
left_more boxes flags k b so_far lt e = record {
  count = set_count flags k b ∙ so_far.count;
  done = λ c below. elim (cases_eq k c) [
    | inl here ↦ ap (λ (j : ℕ). flag_at (slice_set flags k b) j) (sym here) ∙ set_here flags k b (omega (arith, lt, so_far.count)) ∙ e
        ∙ ap (λ (f : Bool). is_block_box (role_at boxes k) && f) (so_far.rest k (omega arith) lt)
        ∙ together (is_block_box (role_at boxes k)) (holds inline boxes k (length boxes)) (not (holds block boxes k (length boxes)))
        ∙ ap (is_inline_container boxes) here
    | inr other ↦ set_other flags k c b other ∙ so_far.done c (omega (arith, below, other))
  ];
  rest = λ c above within. set_other flags k c b (λ same. absurd (omega (arith, above, same))) ∙ so_far.rest c (omega (arith, above)) within;
}
