-- A tree of short lengths is within the bounds of trees.
use Rattle.std.proofs.Common.{ℕ, zero, suc, ◌+◌, ◌<◌, ℤ, ◌+ℤ◌, [], ◌∷◌, slice_get, IfSome, arith}
use Rattle.std.proofs.lemmas.Int.{ints}
use Rattle.lay_units.specs.declared.length.Unit.{Unit}
use Rattle.lay_units.specs.declared.records.Rect.{Rect}
use Rattle.lay_units.specs.Units.{IsPosition}
use Rattle.lay_frag.specs.declared.frag.Frag.{Frag}
use Rattle.lay_frag.specs.declared.frag.FragKind.{FragKind}
use Rattle.lay_frag.specs.declared.frag.FragKind.TheVariants.{Box, Text}
use Rattle.lay_frag.specs.Pieces.{AreInRange, Context, IsContextInRange, IsRectInRange, IsTreeInRange}
use Rattle.lay_box_cases.specs.Small.{IsShortLength, IsShortRect}

abbrev piece : FragKind → ℕ → Rect → Frag
piece kind node rect = record { kind = kind; node = record { 0 = node }; part = 0; rect = rect }

abbrev context : Rect → Unit → Rect → Context
context own shift inner = record {
  node = record { 0 = 1 };
  rect = own;
  shift = shift;
  pieces = piece Box 1 own ∷ piece Text 2 inner ∷ [];
}

short : (v : ℤ) → IsShortLength v → IsPosition v
short v is = let a = is.0 in let b = is.1 in (omega (arith, ints, a), omega (arith, ints, b))

in_range : (r : Rect) → IsShortRect r → IsRectInRange r
in_range r is = record { x = short _ is.x; y = short _ is.y; w = short _ is.w; h = short _ is.h }

two : (a b : Frag) → IsRectInRange a.rect → IsRectInRange b.rect → AreInRange (a ∷ b ∷ [])
two a b first second zero less = first
two a b first second (suc zero) less = second
two a b first second (suc (suc k)) less = absurd (omega (arith, less))

moved_in_range : (own : Rect) (shift : Unit) (inner : Rect) → IsShortRect own → IsShortLength shift.0 → IsShortRect inner
    → IsRectInRange (record { x = record { 0 = own.x.0 +ℤ inner.x.0 }; y = record { 0 = (own.y.0 +ℤ shift.0) +ℤ inner.y.0 }; w = inner.w; h = inner.h })
moved_in_range own shift inner p s q =
    let ox = p.x in
    let oy = p.y in
    let ix = q.x in
    let iy = q.y in
    record {
      x = (omega (arith, ints, ox.0, ix.0), omega (arith, ints, ox.1, ix.1));
      y = (omega (arith, ints, oy.0, iy.0, s.0), omega (arith, ints, oy.1, iy.1, s.1));
      w = short _ q.w;
      h = short _ q.h;
    }

pub tree_in_range : (own : Rect) (shift : Unit) (inner : Rect) → IsShortRect own → IsShortLength shift.0 → IsShortRect inner
    → IsTreeInRange (context own shift inner ∷ [])
tree_in_range own shift inner p s q = record { contexts = each; few = omega arith }
  where
    one : IsContextInRange (context own shift inner)
    one = record {
      rect = in_range own p;
      shift = short _ s;
      pieces = two _ _ (in_range own p) (in_range inner q);
      page = two _ _ (in_range own p) (moved_in_range own shift inner p s q);
    }

    each : (j : ℕ) → j < 1 → IfSome (slice_get (context own shift inner ∷ []) j) IsContextInRange
    each zero less = one
    each (suc j) less = absurd (omega (arith, less))
