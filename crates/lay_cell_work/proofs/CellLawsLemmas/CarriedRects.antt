-- What an absolutely positioned box is given is the same among other formatting contexts, where those on its way are the same there.
use Rattle.std.proofs.Common.{◌≡◌, ◌<◌, ℕ, Bool, if◌then◌else◌, List, Option, None, Some, refl, ap, sym, ◌∙◌, subst, arith}
use Rattle.lay_units.specs.declared.records.Rect.{Rect}
use Rattle.lay_box_tree.specs.declared.box_tree.BoxNode.{BoxNode}
use Rattle.lay_sizes.specs.declared.sizing.ContainingBlock.{ContainingBlock}
use Rattle.lay_contexts.specs.FormattingContexts.{FormattingContext, boxes_in, formatting_context_at}
use Rattle.lay_placements.specs.declared.corner.Corner.{Corner}
use Rattle.lay_placements.specs.declared.standing.Standing.{Standing}
use Rattle.lay_placements.specs.Standings.{standing_at}
use Rattle.lay_positioned.specs.Absolute.{is_absolute, is_own_absolute}
use Rattle.lay_positioned.specs.ContainingRects.{IsContainingRect, held, further, initial, seen_from, viewport_rect}
use Rattle.lay_positioned.specs.Holders.{IsHolderFor}
use Rattle.lay_positioned.specs.Layouts.{Layout, content_corner, standing_of, step}
use Rattle.lay_positioned.specs.PaddingBoxes.{padding_box}

-- the one with the number i among some is laid out as that with the number j among others
pub record IsSameHere (contexts others : List FormattingContext) (v w : ℕ → Layout) (i j : ℕ) : Type 0 where
  pub boxes : boxes_in contexts i ≡ boxes_in others j
  pub laid : v i ≡ w j

-- and so are those on the way from the box at k in it
pub data IsSameWay (is_fixed : Bool) (contexts others : List FormattingContext) (v w : ℕ → Layout) : (i j k : ℕ) → Type 0 where
  ends : (i j k holder : ℕ) → IsHolderFor is_fixed (boxes_in contexts i) k (Some holder) → IsSameHere contexts others v w i j → IsSameWay is_fixed contexts others v w i j k
  goes_on : (i j k : ℕ) → 0 < i → 0 < j → IsSameHere contexts others v w i j
      → (formatting_context_at contexts i).outer_box ≡ (formatting_context_at others j).outer_box
      → IsSameWay is_fixed contexts others v w (formatting_context_at contexts i).outer (formatting_context_at others j).outer (formatting_context_at contexts i).outer_box
      → IsSameWay is_fixed contexts others v w i j k
  at_root : (k : ℕ) → IsSameHere contexts others v w 0 0 → IsSameWay is_fixed contexts others v w 0 0 k

module _ (viewport : ContainingBlock) (is_fixed : Bool) (contexts others : List FormattingContext) (v w : ℕ → Layout) where
  pub here : (i j k : ℕ) → IsSameWay is_fixed contexts others v w i j k → IsSameHere contexts others v w i j
  here i j k (ends i-1 j-1 k-1 holder h s) = s
  here i j k (goes_on i-1 j-1 k-1 some other s box rest) = s
  here i j k (at_root k-1 s) = s

  step_by : (b : Bool) (x y : Corner) (p q : Standing) → x ≡ y → p ≡ q → (if b then x else content_corner p) ≡ (if b then y else content_corner q)
  step_by b x y p q e f = rw (e, f) refl

  step_same : (i j : ℕ) → IsSameHere contexts others v w i j → (formatting_context_at contexts i).outer_box ≡ (formatting_context_at others j).outer_box
      → IsSameHere contexts others v w (formatting_context_at contexts i).outer (formatting_context_at others j).outer → step contexts v i ≡ step others w j
  step_same i j s box around =
      let flag : is_absolute contexts i ≡ is_absolute others j = ap is_own_absolute s.boxes in
      let offset : (v i).offset ≡ (w j).offset = ap (λ (l : Layout). l.offset) s.laid in
      let stands : standing_of contexts v i ≡ standing_of others w j =
      ap (λ (l : Layout). standing_at l.standings (formatting_context_at contexts i).outer_box) around.laid
      ∙ ap (λ (k : ℕ). standing_at (w (formatting_context_at others j).outer).standings k) box in
      step_by (is_absolute contexts i) (v i).offset (w j).offset (standing_of contexts v i) (standing_of others w j) offset stands
      ∙ ap (λ (b : Bool). if b then (w j).offset else content_corner (standing_of others w j)) flag

  holder_same : (i j k : ℕ) (h : Option ℕ) → IsSameHere contexts others v w i j → IsHolderFor is_fixed (boxes_in contexts i) k h → IsHolderFor is_fixed (boxes_in others j) k h
  holder_same i j k h s is = subst (λ (b : List BoxNode). IsHolderFor is_fixed b k h) s.boxes is

  held_same : (i j k holder : ℕ) → IsSameHere contexts others v w i j → IsHolderFor is_fixed (boxes_in contexts i) k (Some holder)
      → IsContainingRect viewport is_fixed others w j k (padding_box (boxes_in contexts i) (v i) holder)
  held_same i j k holder s is =
      let boxes : padding_box (boxes_in contexts i) (v i) holder ≡ padding_box (boxes_in others j) (w j) holder = (ap (λ (b : List BoxNode). padding_box b (v i) holder) s.boxes ∙ ap (λ (l : Layout). padding_box (boxes_in others j) l holder) s.laid) in
      subst (IsContainingRect viewport is_fixed others w j k) (sym boxes) (held j k holder (holder_same i j k (Some holder) s is))

  root_same : (k : ℕ) → IsSameHere contexts others v w 0 0 → IsHolderFor is_fixed (boxes_in contexts 0) k None
      → IsContainingRect viewport is_fixed others w 0 k (seen_from (v 0).offset (viewport_rect viewport))
  root_same k s none =
      subst (λ (l : Layout). IsContainingRect viewport is_fixed others w 0 k (seen_from l.offset (viewport_rect viewport))) (sym s.laid)
      (initial k (holder_same 0 0 k None s none))

  module _ (apart : (boxes : List BoxNode) (k h : ℕ) → IsHolderFor is_fixed boxes k (Some h) → IsHolderFor is_fixed boxes k None → ⊥) where
    -- the containing block is the same
    pub carried : (i j k : ℕ) (r : Rect) → IsSameWay is_fixed contexts others v w i j k → IsContainingRect viewport is_fixed contexts v i k r → IsContainingRect viewport is_fixed others w j k r
    carried i j k r way (held i-1 k-1 holder is) = held_same i j k holder (here i j k way) is
    carried i j k r (ends i-1 j-1 k-1 holder h s) (further i-2 k-2 outside some none rest) = absurd (apart (boxes_in contexts i) k holder h none)
    carried i j k r (goes_on i-1 j-1 k-1 gi gj s box on) (further i-2 k-2 outside some none rest) =
        let around = here (formatting_context_at contexts i).outer (formatting_context_at others j).outer (formatting_context_at contexts i).outer_box on in
        let inner : IsContainingRect viewport is_fixed others w (formatting_context_at others j).outer (formatting_context_at contexts i).outer_box outside =
        carried (formatting_context_at contexts i).outer (formatting_context_at others j).outer (formatting_context_at contexts i).outer_box outside on rest in
        let placed : IsContainingRect viewport is_fixed others w (formatting_context_at others j).outer (formatting_context_at others j).outer_box outside =
        subst (λ (n : ℕ). IsContainingRect viewport is_fixed others w (formatting_context_at others j).outer n outside) box inner in
        subst (λ (c : Corner). IsContainingRect viewport is_fixed others w j k (seen_from c outside)) (sym (step_same i j s box around))
        (further j k outside gj (holder_same i j k None s none) placed)
    carried i j k r (at_root k-1 s) (further i-2 k-2 outside some none rest) = absurd (omega (arith, some))
    carried i j k r (ends i-1 j-1 k-1 holder h s) (initial k-2 none) = absurd (apart (boxes_in contexts 0) k holder h none)
    carried i j k r (goes_on i-1 j-1 k-1 gi gj s box on) (initial k-2 none) = absurd (omega (arith, gi))
    carried i j k r (at_root k-1 s) (initial k-2 none) = root_same k s none
