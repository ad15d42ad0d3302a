-- How far the shape of a line reaches, by how far its parts do and how deep they stand in each other.
use Rattle.std.proofs.Common.{◌≡◌, ℕ, zero, suc, ◌+◌, ◌*◌, ◌^◌, ◌<◌, ◌≤◌, List, ◌∷◌, length, All, sym, ap, subst, arith}
use Rattle.std.specs.Prelude.{◌+ℤ◌}
use Rattle.std.proofs.lemmas.Int.{ints}
use Rattle.std.proofs.lemmas.List.{get_or_default}
use Rattle.lay_units.specs.declared.length.Unit.{Unit}
use Rattle.lay_valign.specs.declared.parts.LineShape.{LineShape}
use Rattle.lay_valign.specs.declared.parts.Part.{Part as LinePart}
use Rattle.lay_valign.specs.Parts.{no_line_part, part_at, AreParts}
use Rattle.lay_valign.specs.LineShape.{IsShape}
use Rattle.lay_valign.specs.Low.{PartReaches, ShapeLow}
use Rattle.lay_valign.specs.Near.{IsNear}
use Rattle.lay_valign.specs.PartsFit.{length_of, PartFits, PartsFit}
use Rattle.lay_valign.proofs.LowShapes.{shapes_are_low_lem}
use Rattle.lay_lines.specs.declared.content.frame.Extent.{Extent}
use Rattle.lay_lines.specs.Content.Extents.{LineParts}
use Rattle.lay_lines.specs.Content.LineContents.{ExtentWithin}
use Rattle.lay_lines.proofs.ContentLemmas.LineLevels.{LineLevels, levels_of}
use Rattle.lay_lines.proofs.ContentLemmas.LineParts.{strut_part, Counted}
use Rattle.lay_lines.proofs.ContentLemmas.LineReaches.{LineReaches, PartStands}
use Rattle.lay_lines.proofs.ContentLemmas.PensWithin.{position}

-- the shape of a line, within what all lines keep to
pub record ShapeWithin (shape : LineShape) : Type 0 where
  pub above : IsNear (2 ^ 59) shape.above.0
  pub below : IsNear (2 ^ 59) shape.below.0
  pub shifts : All (λ (s : Unit). IsNear (2 ^ 60) s.0) shape.shifts

part_fits : (up down : ℕ) (p : LinePart) → up + down ≤ 558446353793941504 → PartStands up down p → PartFits p
part_fits up down p few is = record {
  above = position (17179869184 + (up + down)) p.above.0 (omega (arith, few)) (is.reaches.near_above.0, is.reaches.near_above.1);
  below = position (17179869184 + (up + down)) p.below.0 (omega (arith, few)) (is.reaches.near_below.0, is.reaches.near_below.1);
  shift = position 34359738368 (length_of p.shift) (omega arith) is.shift;
}

-- a line with this strut, whose atomic boxes reach so far above and below the baseline in all
module _ (e : Extent) (strut : ExtentWithin e) (n d up down : ℕ) (l : LineParts) (c : Counted (strut_part e) n l) (deep : LineLevels d l) (r : LineReaches up down l) where
  -- the parts beside the strut
  other : (k : ℕ) → k < length c.rest → PartStands up down (part_at c.rest k)
  other k lt = subst (λ (ps : List LinePart). PartStands up down (part_at ps (suc k))) c.is (r.each (suc k) (omega arith) (let i = ap (λ (ps : List LinePart). length ps) c.is in omega (arith, i, lt)))

  others : All (PartReaches (17179869184 + (up + down)) (17179869184 + up) (17179869184 + down)) c.rest
  others k p lt = subst (PartReaches (17179869184 + (up + down)) (17179869184 + up) (17179869184 + down)) (get_or_default c.rest k no_line_part p lt) (other k lt).reaches

  shape_low : (shape : LineShape) → IsShape l.parts shape → ShapeLow 17179869184 (17179869184 + (up + down)) (17179869184 + up) (17179869184 + down) (2147483648 * 128) shape
  shape_low shape is =
      shapes_are_low_lem (strut_part e) c.rest shape 17179869184 (17179869184 + (up + down)) (17179869184 + up) (17179869184 + down) 128
      (subst AreParts c.is c.are) (subst (λ (ps : List LinePart). IsShape ps shape) c.is is) (levels_of d l (strut_part e ∷ c.rest) c.is deep)
      strut.above strut.below others

  each_fits : up + down ≤ 558446353793941504 → (ps : List LinePart) → ps ≡ strut_part e ∷ c.rest → (k : ℕ) → k < length ps → PartFits (part_at ps k)
  each_fits few ps is k lt = subst (λ (qs : List LinePart). PartFits (part_at qs k)) (sym is) (go k (let i = ap (λ (qs : List LinePart). length qs) is in omega (arith, i, lt)))
    where
      go : (k : ℕ) → k < length (strut_part e ∷ c.rest) → PartFits (part_at (strut_part e ∷ c.rest) k)
      go zero lt = record { above = position (2 ^ 34) _ (omega arith) strut.above; below = position (2 ^ 34) _ (omega arith) strut.below; shift = (omega (arith, ints), omega (arith, ints)) }
      go (suc k) lt = part_fits up down (part_at c.rest k) few (other k (omega (arith, lt)))

  pub shape_within : up + down ≤ 558446353793941504 → (shape : LineShape) → IsShape l.parts shape → ShapeWithin shape
  shape_within low shape is =
      let w = shape_low shape is in
      let a0 = w.above.0 in
      let a1 = w.above.1 in
      let b0 = w.below.0 in
      let b1 = w.below.1 in
      record {
        above = (omega (arith, ints, low, a0), omega (arith, ints, low, a1));
        below = (omega (arith, ints, low, b0), omega (arith, ints, low, b1));
        shifts = λ k d lt. (
            let s0 = (w.shifts k d lt).0 in
            let s1 = (w.shifts k d lt).1 in
            (omega (arith, ints, low, s0), omega (arith, ints, low, s1)));
      }

  -- nine times 2^36 units, and what its atomic boxes reach
  pub height_near : (shape : LineShape) → IsShape l.parts shape → IsNear (618475290624 + (up + down)) (shape.above.0 +ℤ shape.below.0)
  height_near shape is =
      let w = (shape_low shape is).height in
      let a = w.0 in
      let b = w.1 in
      (omega (arith, ints, a), omega (arith, ints, b))

  -- all that the shape of the line is made of, and that is made of it, is a position
  pub parts_fit : up + down ≤ 558446353793941504 → n ≤ 2 ^ 31 → PartsFit l.parts
  parts_fit low few = record {
    are_parts = c.are;
    few = (let i = ap (λ (ps : List LinePart). length ps) c.is in let j = c.count in omega (arith, few, i, j));
    each = each_fits low l.parts c.is;
    shape = λ shape is. (
        let w = shape_within low shape is in
        record {
          above = position (2 ^ 59) _ (omega arith) w.above;
          below = position (2 ^ 59) _ (omega arith) w.below;
          shifts = λ k d lt. position (2 ^ 60) _ (omega arith) (w.shifts k d lt);
        });
  }
