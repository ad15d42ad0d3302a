-- A line's shape reaches no further than its strut and the highest and the lowest of its other parts, and what these are raised.
use Rattle.std.proofs.Common.{◌≡◌, ℕ, zero, suc, ◌+◌, ◌*◌, ◌<◌, ℤ, pos, ◌+ℤ◌, ◌-ℤ◌, ◌≤ℤ◌, neg_ℤ, List, ◌∷◌, inl, inr, length, All, refl, sym, ◌∙◌, arith, subst}
use Rattle.std.proofs.Common.{Bool, true, false}
use Rattle.std.specs.Prelude.{slice_index}
use Rattle.std.proofs.lemmas.Int.{ints, clamps}
use Rattle.std.proofs.lemmas.List.{get_or_default}
use Rattle.lay_units.specs.Units.{clamp_of}
use Rattle.lay_units.specs.declared.length.Unit.{Unit}
use Rattle.lay_units.specs.Lengths.{no_length}
use Rattle.lay_valign.specs.declared.parts.LineEdge.{LineEdge}
use Rattle.lay_valign.specs.declared.parts.LineEdge.TheVariants.{TopEdge, BottomEdge}
use Rattle.lay_valign.specs.declared.parts.Part.{Part}
use Rattle.lay_valign.specs.declared.parts.Shift.{Shift}
use Rattle.lay_valign.specs.declared.parts.Shift.TheVariants.{By, Middle, TextTop, TextBottom, Top, Bottom}
use Rattle.lay_valign.specs.Parts.{part_at, at, no_line_part, begins, AreParts}
use Rattle.lay_valign.specs.Raises.{raise_by, raise_of}
use Rattle.lay_valign.specs.Subtrees.{Subtrees, AreSubtrees, HasRises, IsGreatest, InSubtree, above_of, below_of, rise_of}
use Rattle.lay_valign.specs.LineShape.{IsAligned, IsLine, IsRaised, beyond, base_by, base_of, shift_of}
use Rattle.lay_valign.specs.Near.{IsNear}
use Rattle.lay_valign.specs.Low.{LevelsWithin, PartReaches, ShapesAreLow}
use Rattle.lay_valign.proofs.Columns.{root_own, root_first, own_root}
use Rattle.lay_valign.proofs.OneShape.{aligned_begins}

held : (v : ℤ) → IsNear 2147483648 (clamp_of v)
held v = (omega (arith, ints, clamps), omega (arith, ints, clamps))

held_raise : (part : Part) → IsNear 2147483648 (raise_of part)
held_raise part = held (raise_by part.shift part.above.0 part.below.0)

-- a part that isn't a root stands where its parent does, but for its raise
raised_by : (m n : ℕ) (parent raise rise : ℤ) → m < n → IsNear (2147483648 * m) parent → IsNear 2147483648 raise → rise ≡ parent +ℤ raise → IsNear (2147483648 * n) rise
raised_by m n parent raise rise less p r e =
    let a = p.0 in let b = p.1 in let c = r.0 in let d = r.1 in
    (omega (arith, ints, less, e, a, c), omega (arith, ints, less, e, b, d))

-- between these
abbrev IsBetween : ℕ → ℕ → ℤ → Type 0
IsBetween low high v = (neg_ℤ (pos low) ≤ℤ v) × (v ≤ℤ pos high)

above_by : (reach up raised : ℕ) (rise above : ℤ) → IsNear raised rise → IsNear reach above → above ≤ℤ pos up → IsBetween (reach + raised) (up + raised) (rise +ℤ above)
above_by reach up raised rise above r n most =
    let a = r.0 in let b = r.1 in let c = n.0 in (omega (arith, ints, a, c), omega (arith, ints, b, most))

below_by : (reach down raised : ℕ) (rise below : ℤ) → IsNear raised rise → IsNear reach below → below ≤ℤ pos down → IsBetween (reach + raised) (down + raised) (below -ℤ rise)
below_by reach down raised rise below r n most =
    let a = r.0 in let b = r.1 in let c = n.0 in (omega (arith, ints, b, c), omega (arith, ints, a, most))

module _ (strut : Part) (parts : List Part) (are : AreParts (strut ∷ parts)) (depth : ℕ) (deep : LevelsWithin depth (strut ∷ parts)) where
  abbrev all : List Part
  all = strut ∷ parts

  abbrev level : ℕ → ℕ
  level k = slice_index deep.levels k

  -- how far all raises together can take a part
  abbrev raised : ℕ
  raised = 2147483648 * depth

  rise_by : (rises : List ℤ) (k : ℕ) (b : Bool) → begins (part_at parts k).shift ≡ b → at rises (suc k) ≡ rise_of all rises (suc k)
      → IsNear (2147483648 * level (part_at parts k).parent) (at rises (part_at parts k).parent) → level (part_at parts k).parent < level (suc k) → IsNear (2147483648 * level (suc k)) (at rises (suc k))
  rise_by rises k true is e w less = (let z : at rises (suc k) ≡ pos 0 = e ∙ rw is refl in (omega (arith, ints, z), omega (arith, ints, z)))
  rise_by rises k false is e w less =
      raised_by (level (part_at parts k).parent) (level (suc k)) (at rises (part_at parts k).parent) (raise_of (part_at parts k)) (at rises (suc k)) less w (held_raise (part_at parts k)) (e ∙ rw is refl)

  rises_near : (rises : List ℤ) → HasRises all rises → (n k : ℕ) → k < n → k < length all → IsNear (2147483648 * level k) (at rises k)
  rises_near rises has zero k lt within = absurd (omega arith)
  rises_near rises has (suc n) zero lt within = (let e = has.each zero within in (omega (arith, ints, e), omega (arith, ints, e)))
  rises_near rises has (suc n) (suc k) lt within =
      let b = are.before (suc k) (omega arith) within in
      rise_by rises k _ refl (has.each (suc k) within)
      (rises_near rises has n (part_at parts k).parent (omega (arith, b, lt)) (omega (arith, b, within))) (deep.deeper (suc k) (omega arith) within)

  rise_near : (rises : List ℤ) → HasRises all rises → (k : ℕ) → k < length all → IsNear raised (at rises k)
  rise_near rises has k within =
      let most = deep.most k within in
      let w = rises_near rises has (suc k) k (omega arith) within in
      let a = w.0 in let b = w.1 in
      (omega (arith, ints, most, a), omega (arith, ints, most, b))

  module _ (s : Subtrees) (is : AreSubtrees all s) (u reach up down : ℕ) (upper : IsNear u strut.above.0) (lower : IsNear u strut.below.0) (each : All (PartReaches reach up down) parts) where
    part_reaches : (k : ℕ) → suc k < length all → PartReaches reach up down (part_at parts k)
    part_reaches k within = each k no_line_part (omega (arith, within))

    over : (k : ℕ) → suc k < length all → IsBetween (reach + raised) (up + raised) (above_of all s.rises (suc k))
    over k within = let w = part_reaches k within in above_by reach up raised _ _ (rise_near s.rises is.rises (suc k) within) w.near_above w.above

    under : (k : ℕ) → suc k < length all → IsBetween (reach + raised) (down + raised) (below_of all s.rises (suc k))
    under k within = let w = part_reaches k within in below_by reach down raised _ _ (rise_near s.rises is.rises (suc k) within) w.near_below w.below

    no_root : slice_index s.roots 0 ≡ 0
    no_root = is.roots.each 0 are.strut

    -- how far the subtree of a part other than the strut reaches
    other_reaches : (low high : ℕ) (value : ℕ → ℤ) → ((k : ℕ) → suc k < length all → IsBetween low high (value (suc k))) → (root : ℕ) → 0 < root → (v : ℤ)
        → IsGreatest (InSubtree s.roots root) value v → IsBetween low high v
    other_reaches low high value within root some v g = go g.one_of.0 g.one_of.1 g.one_of.2
      where
        go : (k : ℕ) → InSubtree s.roots root k → value k ≡ v → IsBetween low high v
        go zero of e = absurd (let r = of.1 in let z = no_root in omega (arith, z, r, some))
        go (suc k) of e = (let l = of.0 in let m = is.roots.as_many in subst (IsBetween low high) e (within k (omega (arith, l, m))))

    -- and that of the strut
    strut_reaches : (low high : ℕ) (value : ℕ → ℤ) → ((k : ℕ) → suc k < length all → IsBetween low high (value (suc k))) → IsNear u (value 0) → (v : ℤ)
        → IsGreatest (InSubtree s.roots 0) value v → IsBetween u (u + high) v
    strut_reaches low high value within first v g =
        let here : 0 < length s.roots = (let m = is.roots.as_many in let l = are.strut in omega (arith, m, l)) in
        let at_least = g.most 0 (here, no_root) in
        let least = first.0 in
        (omega (arith, ints, least, at_least), go g.one_of.0 g.one_of.1 g.one_of.2)
      where
        go : (k : ℕ) → InSubtree s.roots 0 k → value k ≡ v → v ≤ℤ pos (u + high)
        go zero of e = (let most = first.1 in omega (arith, ints, most, e))
        go (suc k) of e = (let l = of.0 in let m = is.roots.as_many in let most = (within k (omega (arith, l, m))).1 in omega (arith, ints, most, e))

    above_reaches : (root : ℕ) → root < length all → 0 < root → slice_index s.roots root ≡ root → IsBetween (reach + raised) (up + raised) (at s.aboves root)
    above_reaches root lt some own = other_reaches _ _ (above_of all s.rises) over root some (at s.aboves root) (is.aboves root (let m = is.roots.as_many in omega (arith, m, lt)) own)

    below_reaches : (root : ℕ) → root < length all → 0 < root → slice_index s.roots root ≡ root → IsBetween (reach + raised) (down + raised) (at s.belows root)
    below_reaches root lt some own = other_reaches _ _ (below_of all s.rises) under root some (at s.belows root) (is.belows root (let m = is.roots.as_many in omega (arith, m, lt)) own)

    strut_within : 0 < length s.roots
    strut_within = let m = is.roots.as_many in let l = are.strut in omega (arith, m, l)

    rise_none : at s.rises 0 ≡ pos 0
    rise_none = is.rises.each 0 are.strut

    strut_above : IsBetween u (u + (up + raised)) (at s.aboves 0)
    strut_above = strut_reaches _ _ (above_of all s.rises) over
        (let z = rise_none in let a = upper.0 in let b = upper.1 in (omega (arith, ints, z, a), omega (arith, ints, z, b)))
        (at s.aboves 0) (is.aboves 0 strut_within no_root)

    strut_below : IsBetween u (u + (down + raised)) (at s.belows 0)
    strut_below = strut_reaches _ _ (below_of all s.rises) under
        (let z = rise_none in let a = lower.0 in let b = lower.1 in (omega (arith, ints, z, a), omega (arith, ints, z, b)))
        (at s.belows 0) (is.belows 0 strut_within no_root)

    -- the subtree that raises an edge of the line is no higher than its highest and its lowest part
    subtree_height : (edge : LineEdge) (beside v : ℤ) → ((k : ℕ) × IsAligned edge all k × (beyond s beside k ≡ v)) → (beside +ℤ v) ≤ℤ pos (up + down + 2 * raised)
    subtree_height edge beside v found =
        let al = found.1 in
        let own = own_root all s.roots found.0 is.roots al.within al.no_strut (aligned_begins edge (part_at all found.0).shift al.aligned) in
        let a = (above_reaches found.0 al.within al.no_strut own).1 in
        let b = (below_reaches found.0 al.within al.no_strut own).1 in
        let e = found.2 in
        omega (arith, ints, a, b, e)

    line_reaches : (edge : LineEdge) (beside floor v : ℤ) → neg_ℤ (pos u) ≤ℤ beside → neg_ℤ (pos u) ≤ℤ floor → floor ≤ℤ pos (u + up + down + 2 * raised)
        → IsRaised (IsAligned edge all) (beyond s beside) floor v → IsBetween u (u + up + down + 2 * raised) v
    line_reaches edge beside floor v least low high r =
        let from = r.from in (
          omega (arith, ints, low, from),
          elim r.least [
            | inl e ↦ omega (arith, ints, high, e)
            | inr found ↦ (let h = subtree_height edge beside v found in omega (arith, ints, h, least))
          ],
        )

    -- how high the line is where it is raised for a subtree: no more than the strut's, or than that subtree
    height_most : (edge : LineEdge) (beside floor v : ℤ) → (beside +ℤ floor) ≤ℤ pos (2 * u + up + down + 2 * raised)
        → IsRaised (IsAligned edge all) (beyond s beside) floor v → (beside +ℤ v) ≤ℤ pos (2 * u + up + down + 2 * raised)
    height_most edge beside floor v high r = elim r.least [
      | inl e ↦ omega (arith, ints, e, high)
      | inr found ↦ (let h = subtree_height edge beside v found in omega (arith, ints, h))
    ]

    module _ (above below : ℤ) (line : IsLine all s above below) where
      down_high : (at s.aboves 0 +ℤ below) ≤ℤ pos (2 * u + up + down + 2 * raised)
      down_high =
          height_most TopEdge (at s.aboves 0) (at s.belows 0) below (let a = strut_above.1 in let b = strut_below.1 in omega (arith, ints, a, b)) line.downward

      up_high : (below +ℤ above) ≤ℤ pos (2 * u + up + down + 2 * raised)
      up_high = height_most BottomEdge below (at s.aboves 0) above (let a = down_high in omega (arith, ints, a)) line.upward

      line_below : IsBetween u (u + up + down + 2 * raised) below
      line_below = line_reaches TopEdge (at s.aboves 0) (at s.belows 0) below strut_above.0 strut_below.0 (let b = strut_below.1 in omega (arith, ints, b)) line.downward

      line_above : IsBetween u (u + up + down + 2 * raised) above
      line_above = line_reaches BottomEdge below (at s.aboves 0) above line_below.0 strut_above.0 (let a = strut_above.1 in omega (arith, ints, a)) line.upward

      line_height : IsNear (2 * u + up + down + 2 * raised) (above +ℤ below)
      line_height =
          let a = line_above.0 in let b = line_below.0 in let high = up_high in
          (omega (arith, ints, a, b), omega (arith, ints, high))

      base_by_near : (shift : Shift) (a b : ℤ) → IsBetween (reach + raised) (up + raised) a → IsBetween (reach + raised) (down + raised) b
          → IsNear (u + reach + up + down + 3 * raised) (base_by shift a b above below)
      base_by_near (By v) a b p q = (omega (arith, ints), omega (arith, ints))
      base_by_near (Middle v) a b p q = (omega (arith, ints), omega (arith, ints))
      base_by_near (TextTop v) a b p q = (omega (arith, ints), omega (arith, ints))
      base_by_near (TextBottom v) a b p q = (omega (arith, ints), omega (arith, ints))
      base_by_near Top a b p q =
          let c = line_above.0 in let d = line_above.1 in let e = p.0 in let f = p.1 in (omega (arith, ints, c, f), omega (arith, ints, d, e))
      base_by_near Bottom a b p q =
          let c = line_below.0 in let d = line_below.1 in let e = q.0 in let f = q.1 in (omega (arith, ints, d, e), omega (arith, ints, c, f))

      base_near : (root : ℕ) → root < length all → slice_index s.roots root ≡ root → IsNear (u + reach + up + down + 3 * raised) (base_of all s above below root)
      base_near zero lt own = (omega (arith, ints), omega (arith, ints))
      base_near (suc r) lt own = base_by_near (part_at all (suc r)).shift _ _ (above_reaches (suc r) lt (omega arith) own) (below_reaches (suc r) lt (omega arith) own)

      shift_near : (k : ℕ) → k < length all → IsNear (u + reach + up + down + 4 * raised) (shift_of all s above below k)
      shift_near k lt =
          let first = root_first all s.roots k are is.roots lt in
          let b = base_near (slice_index s.roots k) (omega (arith, first, lt)) (root_own all s.roots k are is.roots lt) in
          let r = rise_near s.rises is.rises k lt in
          let b0 = b.0 in let b1 = b.1 in let r0 = r.0 in let r1 = r.1 in
          (omega (arith, ints, b0, r0), omega (arith, ints, b1, r1))

within_both : (u n : ℕ) (v : ℤ) → IsBetween u (u + n) v → IsNear (u + n) v
within_both u n v is = let a = is.0 in let b = is.1 in (omega (arith, ints, a), omega (arith, ints, b))

pub shapes_are_low_lem : ShapesAreLow
shapes_are_low_lem strut parts shape u reach up down depth are is deep upper lower each =
    let subtrees = is.subtrees in
    let are_subtrees = is.are_subtrees in
    let above = line_above strut parts are depth deep subtrees are_subtrees u reach up down upper lower each shape.above.0 shape.below.0 is.line in
    let below = line_below strut parts are depth deep subtrees are_subtrees u reach up down upper lower each shape.above.0 shape.below.0 is.line in
    let a0 = above.0 in let a1 = above.1 in let b0 = below.0 in let b1 = below.1 in
    record {
      above = (omega (arith, ints, a0), omega (arith, ints, a1));
      below = (omega (arith, ints, b0), omega (arith, ints, b1));
      height = line_height strut parts are depth deep subtrees are_subtrees u reach up down upper lower each shape.above.0 shape.below.0 is.line;
      shifts = λ k d lt. (
          let e = is.as_many in
          let within : k < length (strut ∷ parts) = omega (arith, e, lt) in
          let w = shift_near strut parts are depth deep subtrees are_subtrees u reach up down upper lower each shape.above.0 shape.below.0 is.line k within in
          let same = is.each k within in
          subst (λ (x : Unit). IsNear (u + reach + up + down + 4 * (2147483648 * depth)) x.0) (get_or_default shape.shifts k no_length d lt)
          (subst (IsNear (u + reach + up + down + 4 * (2147483648 * depth))) (sym same) w));
    }
