-- Which points the edges of a rectangle hold: its left and its top edge are of it, its right and its bottom edge aren't.
use Rattle.std.specs.Prelude.{ℤ, pos, ◌≡◌, ◌≤ℤ◌, ◌+ℤ◌, ◌-ℤ◌, ◌⊎◌, ◌||◌, true, false}
use Rattle.lay_units.specs.declared.records.Rect.{Rect}
use Rattle.lay_frag.specs.declared.frag.Frag.{Frag}
use Rattle.lay_hit.specs.Hits.{holds, is_in_rect}

-- of two pieces one ends where the other begins, or before that
abbrev pub AreApart : Rect → Rect → Type 0
AreApart r s = ((r.x.0 +ℤ r.w.0) ≤ℤ s.x.0) ⊎ ((r.y.0 +ℤ r.h.0) ≤ℤ s.y.0)

-- two that share an edge alone share no point
abbrev pub EdgesShareNothing : Type 0
EdgesShareNothing = (x y : ℤ) (f g : Frag) → AreApart f.rect g.rect → holds x y f ≡ true → holds x y g ≡ false

-- one without width or without height holds none
abbrev pub EmptyHoldNothing : Type 0
EmptyHoldNothing = (x y : ℤ) (f : Frag) → (f.rect.w.0 ≤ℤ pos 0) ⊎ (f.rect.h.0 ≤ℤ pos 0) → holds x y f ≡ false

-- the parts of a rectangle that is cut so far from its left edge, or from its top
abbrev pub left_part : ℤ → Rect → Rect
left_part cut r = record r { w = record { 0 = cut } }

abbrev pub right_part : ℤ → Rect → Rect
right_part cut r = record r { x = record { 0 = r.x.0 +ℤ cut }; w = record { 0 = r.w.0 -ℤ cut } }

abbrev pub upper_part : ℤ → Rect → Rect
upper_part cut r = record r { h = record { 0 = cut } }

abbrev pub lower_part : ℤ → Rect → Rect
lower_part cut r = record r { y = record { 0 = r.y.0 +ℤ cut }; h = record { 0 = r.h.0 -ℤ cut } }

-- each point of a rectangle is in one of its parts, and they hold no other
pub record HoldTogether (x y : ℤ) (r : Rect) (cut : ℤ) : Type 0 where
  pub beside : cut ≤ℤ r.w.0 → is_in_rect x y r ≡ (is_in_rect x y (left_part cut r) || is_in_rect x y (right_part cut r))
  pub below : cut ≤ℤ r.h.0 → is_in_rect x y r ≡ (is_in_rect x y (upper_part cut r) || is_in_rect x y (lower_part cut r))

abbrev pub PartsHoldAll : Type 0
PartsHoldAll = (x y : ℤ) (r : Rect) (cut : ℤ) → pos 0 ≤ℤ cut → HoldTogether x y r cut
