-- The order of painting as 9.9.1 and Appendix E say it of two boxes, apart from the steps that find it: "boxes with greater stack
-- levels are always formatted in front of boxes with lower stack levels", and "boxes with the same stack level in a stacking
-- context are stacked back-to-front according to document tree order".
use Rattle.std.specs.Prelude.{ℕ, ℤ, pos, ◌≡◌, ◌<◌, ◌<ℤ◌, true, false, List, slice_get, Some, flat_map, IsPermutation}
use Rattle.std.specs.List.{range_with_len}
use Rattle.lay_frag.specs.declared.frag.Frag.{Frag}
use Rattle.lay_hit.specs.PaintKinds.{is_stacking}
use Rattle.lay_hit.specs.Pages.{Page}
use Rattle.lay_hit.specs.Wholes.{own_pieces}

-- the node at a place is the one at k, or is in it
pub data IsIn (parent : ℕ → ℕ) (k : ℕ) : ℕ → Type 0 where
  itself : IsIn parent k k
  inner : (m : ℕ) → 0 < m → IsIn parent k (parent m) → IsIn parent k m

-- g is the nearest element around k that makes a stacking context
pub record IsContextOf (p : Page) (g k : ℕ) : Type 0 where
  pub later : 0 < k
  pub within : k < p.count
  pub around : IsIn p.parent g (p.parent k)
  pub makes : is_stacking (p.kind g) ≡ true
  pub nearest : (m : ℕ) → IsIn p.parent g m → IsIn p.parent m (p.parent k) → is_stacking (p.kind m) ≡ true → m ≡ g

-- nodes from back to front, each of a page once, whose pieces are these
pub record ArePaintedIn (p : Page) (fs : List Frag) (order : List ℕ) : Type 0 where
  pub each : IsPermutation (range_with_len 0 p.count) order
  pub pieces : fs ≡ flat_map (own_pieces p) order

-- a node stands behind another one on the page
abbrev pub IsBehind : List ℕ → ℕ → ℕ → Type 0
IsBehind order a b = (m n : ℕ) → slice_get order m ≡ Some a → slice_get order n ≡ Some b → m < n

-- the node at j makes a stacking context that belongs to that of g
pub record IsChildContext (p : Page) (g j : ℕ) : Type 0 where
  pub context : IsContextOf p g j
  pub makes : is_stacking (p.kind j) ≡ true

-- the node at k belongs to the stacking context of g and makes none: a block, a float, inline content, or positioned without a level
pub record IsContentOf (p : Page) (g k : ℕ) : Type 0 where
  pub context : IsContextOf p g k
  pub plain : is_stacking (p.kind k) ≡ false

pub record IsStacked (p : Page) (order : List ℕ) : Type 0 where
  -- background and borders of the element that makes a stacking context are behind all that is in it
  pub context_behind : (g a : ℕ) → is_stacking (p.kind g) ≡ true → a < p.count → (a ≡ g → ⊥) → IsIn p.parent g a → IsBehind order g a
  -- of two stacking contexts of one, all of the one with the lesser level is behind all of the other
  pub by_level : (g j k a b : ℕ) → IsChildContext p g j → IsChildContext p g k → p.level j <ℤ p.level k → a < p.count → b < p.count
      → IsIn p.parent j a → IsIn p.parent k b → IsBehind order a b
  -- and of two with one level, all of the one that stands first in the document
  pub in_document_order : (g j k a b : ℕ) → IsChildContext p g j → IsChildContext p g k → p.level j ≡ p.level k → j < k → a < p.count
      → b < p.count → IsIn p.parent j a → IsIn p.parent k b → IsBehind order a b
  -- what has a negative level is behind the content of its context, and what has a positive one is in front of it
  pub negative_behind : (g j k a : ℕ) → IsChildContext p g j → IsContentOf p g k → p.level j <ℤ pos 0 → a < p.count → IsIn p.parent j a
      → IsBehind order a k
  pub positive_in_front : (g j k a : ℕ) → IsChildContext p g j → IsContentOf p g k → pos 0 <ℤ p.level j → a < p.count → IsIn p.parent j a
      → IsBehind order k a
