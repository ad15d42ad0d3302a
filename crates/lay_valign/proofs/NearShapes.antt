-- A line's shape reaches no further than its strut, and what its other parts can lift.
use Rattle.std.proofs.Common.{◌≡◌, ℕ, zero, suc, ◌+◌, ◌*◌, ◌<◌, ◌≤◌, ℤ, pos, negsuc, ◌+ℤ◌, ◌-ℤ◌, ◌≤ℤ◌, neg_ℤ, List, [], ◌∷◌, inl, inr, length, refl, sym, ◌∙◌, arith, subst}
use Rattle.std.proofs.Common.{Bool, true, false}
use Rattle.std.specs.Prelude.{slice_index}
use Rattle.std.proofs.lemmas.Int.{ints, clamps}
use Rattle.std.proofs.lemmas.List.{get_or_default}
use Rattle.std.proofs.lemmas.Bool.{cases_lt}
use Rattle.lay_units.specs.Units.{clamp_of, half_of}
use Rattle.lay_units.specs.declared.length.Unit.{Unit}
use Rattle.lay_units.specs.Lengths.{no_length}
use Rattle.lay_valign.specs.declared.parts.LineEdge.{LineEdge}
use Rattle.lay_valign.specs.declared.parts.LineEdge.TheVariants.{TopEdge, BottomEdge}
use Rattle.lay_valign.specs.declared.parts.Part.{Part}
use Rattle.lay_valign.specs.declared.parts.Shift.{Shift}
use Rattle.lay_valign.specs.declared.parts.Shift.TheVariants.{By, Middle, TextTop, TextBottom, Top, Bottom}
use Rattle.lay_valign.specs.Parts.{part_at, at, begins, AreParts}
use Rattle.lay_valign.specs.PartsFit.{length_of}
use Rattle.lay_valign.specs.Raises.{raise_by, raise_of}
use Rattle.lay_valign.specs.Subtrees.{Subtrees, AreSubtrees, HasRises, IsGreatest, InSubtree, above_of, below_of, rise_of}
use Rattle.lay_valign.specs.LineShape.{IsAligned, IsLine, IsRaised, beyond, base_by, base_of, shift_of}
use Rattle.lay_valign.specs.Near.{distance, IsNear, lift, lift_of, ShapesAreNear}
use Rattle.lay_valign.proofs.Columns.{root_own, root_first, own_root}
use Rattle.lay_valign.proofs.OneShape.{aligned_begins}

-- what the first n of these lift
abbrev lift_to : List Part → ℕ → ℕ
lift_to ps zero = 0
lift_to ps (suc k) = lift_to ps k + lift (part_at ps k)

none_lifts : (k : ℕ) → lift_to [] k ≡ 0
none_lifts zero = refl
none_lifts (suc k) = let e = none_lifts k in omega (arith, e)

one_more : (p : Part) (ps : List Part) (k : ℕ) → lift_to (p ∷ ps) (suc k) ≡ lift p + lift_to ps k
one_more p ps zero = omega arith
one_more p ps (suc k) = let e = one_more p ps k in omega (arith, e)

lift_most : (ps : List Part) (k : ℕ) → lift_to ps k ≤ lift_of ps
lift_most [] k = let e = none_lifts k in omega (arith, e)
lift_most (p ∷ ps) zero = omega arith
lift_most (p ∷ ps) (suc k) = let e = one_more p ps k in let le = lift_most ps k in omega (arith, e, le)

lift_up : (ps : List Part) (j k : ℕ) → j ≤ k → lift_to ps j ≤ lift_to ps k
lift_up ps j zero le = let e : j ≡ 0 = omega (arith, le) in subst (λ (i : ℕ). lift_to ps i ≤ 0) (sym e) (omega arith)
lift_up ps zero (suc k) le = omega arith
lift_up ps (suc j) (suc k) le = elim (cases_lt j k) [
  | inl less ↦ (let up = lift_up ps (suc j) k (omega (arith, less)) in omega (arith, up))
  | inr more ↦ (let e : j ≡ k = omega (arith, le, more) in subst (λ (i : ℕ). lift_to ps (suc i) ≤ lift_to ps (suc k)) (sym e) (omega arith))
]

pub near : (v : ℤ) → IsNear (distance v) v
near (pos n) = (omega (arith, ints), omega (arith, ints))
near (negsuc n) = (omega (arith, ints), omega (arith, ints))

wider : (m n : ℕ) (v : ℤ) → m ≤ n → IsNear m v → IsNear n v
wider m n v le is = let a = is.0 in let b = is.1 in (omega (arith, ints, le, a), omega (arith, ints, le, b))

sum_near : (m n : ℕ) (v w : ℤ) → IsNear m v → IsNear n w → IsNear (m + n) (v +ℤ w)
sum_near m n v w p q = let a = p.0 in let b = p.1 in let c = q.0 in let d = q.1 in (omega (arith, ints, a, c), omega (arith, ints, b, d))

difference_near : (m n : ℕ) (v w : ℤ) → IsNear m v → IsNear n w → IsNear (m + n) (v -ℤ w)
difference_near m n v w p q = let a = p.0 in let b = p.1 in let c = q.0 in let d = q.1 in (omega (arith, ints, a, d), omega (arith, ints, b, c))

half_low : (v : ℤ) → (half_of v +ℤ half_of v) ≤ℤ v
half_low (pos n) = omega (arith, ints)
half_low (negsuc n) = omega (arith, ints)

half_high : (v : ℤ) → v ≤ℤ ((half_of v +ℤ half_of v) +ℤ pos 1)
half_high (pos n) = omega (arith, ints)
half_high (negsuc n) = omega (arith, ints)

abbrev lift_by : Shift → ℤ → ℤ → ℕ
lift_by s above below = distance above + distance below + distance (length_of s)

-- a part's raise, and how far it reaches above and below its parent's baseline, are no more than its lift
record RaiseNear (s : Shift) (above below : ℤ) : Type 0 where
  raise : IsNear (lift_by s above below) (clamp_of (raise_by s above below))
  over : IsNear (lift_by s above below) (clamp_of (raise_by s above below) +ℤ above)
  under : IsNear (lift_by s above below) (below -ℤ clamp_of (raise_by s above below))

-- a raise that is held within bounds stands between none and the one that isn't
held_near : (n : ℕ) (r above below : ℤ) → IsNear n above → IsNear n below → IsNear n r → IsNear n (r +ℤ above) → IsNear n (below -ℤ r)
    → IsNear n (clamp_of r) × IsNear n (clamp_of r +ℤ above) × IsNear n (below -ℤ clamp_of r)
held_near n r above below a b p q t =
    let a0 = a.0 in let a1 = a.1 in let b0 = b.0 in let b1 = b.1 in
    let p0 = p.0 in let p1 = p.1 in let q0 = q.0 in let q1 = q.1 in let t0 = t.0 in let t1 = t.1 in (
      (omega (arith, ints, clamps, p0), omega (arith, ints, clamps, p1)),
      (omega (arith, ints, clamps, a0, q0), omega (arith, ints, clamps, a1, q1)),
      (omega (arith, ints, clamps, b0, t0), omega (arith, ints, clamps, b1, t1)),
    )

lift_above : (s : Shift) (above below : ℤ) → IsNear (lift_by s above below) above
lift_above s above below = wider (distance above) (lift_by s above below) above (omega arith) (near above)

lift_below : (s : Shift) (above below : ℤ) → IsNear (lift_by s above below) below
lift_below s above below = wider (distance below) (lift_by s above below) below (omega arith) (near below)

near_by : (s : Shift) (above below r : ℤ) → r ≡ raise_by s above below → IsNear (lift_by s above below) r → IsNear (lift_by s above below) (r +ℤ above)
    → IsNear (lift_by s above below) (below -ℤ r) → RaiseNear s above below
near_by s above below r e p q t =
    let h = held_near (lift_by s above below) r above below (lift_above s above below) (lift_below s above below) p q t in
    record {
      raise = subst (λ (v : ℤ). IsNear (lift_by s above below) (clamp_of v)) e h.0;
      over = subst (λ (v : ℤ). IsNear (lift_by s above below) (clamp_of v +ℤ above)) e h.1;
      under = subst (λ (v : ℤ). IsNear (lift_by s above below) (below -ℤ clamp_of v)) e h.2;
    }

-- with a raise that is half of something, floored
half_near : (above below x r : ℤ) → (r +ℤ r) ≤ℤ (x +ℤ (below -ℤ above)) → (x +ℤ (below -ℤ above)) ≤ℤ ((r +ℤ r) +ℤ pos 1)
    → IsNear (distance above + distance below + distance x) r × IsNear (distance above + distance below + distance x) (r +ℤ above) × IsNear (distance above + distance below + distance x) (below -ℤ r)
half_near above below x r low high =
    let a = near above in let b = near below in let c = near x in
    let a0 = a.0 in let a1 = a.1 in let b0 = b.0 in let b1 = b.1 in let c0 = c.0 in let c1 = c.1 in (
      (omega (arith, ints, low, high, a0, a1, b0, b1, c0, c1), omega (arith, ints, low, high, a0, a1, b0, b1, c0, c1)),
      (omega (arith, ints, low, high, a0, a1, b0, b1, c0, c1), omega (arith, ints, low, high, a0, a1, b0, b1, c0, c1)),
      (omega (arith, ints, low, high, a0, a1, b0, b1, c0, c1), omega (arith, ints, low, high, a0, a1, b0, b1, c0, c1)),
    )

-- with none
still_near : (s : Shift) (above below : ℤ) → pos 0 ≡ raise_by s above below → RaiseNear s above below
still_near s above below e =
    let a = near above in let b = near below in
    let a0 = a.0 in let a1 = a.1 in let b0 = b.0 in let b1 = b.1 in
    near_by s above below (pos 0) e (omega (arith, ints), omega (arith, ints)) (omega (arith, ints, a0), omega (arith, ints, a1)) (omega (arith, ints, b0), omega (arith, ints, b1))

raise_near : (s : Shift) (above below : ℤ) → RaiseNear s above below
raise_near (By l) above below =
    let a = near above in let b = near below in let c = near l.0 in
    let a0 = a.0 in let a1 = a.1 in let b0 = b.0 in let b1 = b.1 in let c0 = c.0 in let c1 = c.1 in
    near_by (By l) above below l.0 refl (omega (arith, ints, c0), omega (arith, ints, c1)) (omega (arith, ints, a0, c0), omega (arith, ints, a1, c1))
    (omega (arith, ints, b0, c1), omega (arith, ints, b1, c0))
raise_near (Middle x) above below =
    let r = half_of (x.0 +ℤ (below -ℤ above)) in
    let h = half_near above below x.0 r (half_low (x.0 +ℤ (below -ℤ above))) (half_high (x.0 +ℤ (below -ℤ above))) in
    near_by (Middle x) above below r refl h.0 h.1 h.2
raise_near (TextTop l) above below =
    let a = near above in let b = near below in let c = near l.0 in
    let a0 = a.0 in let a1 = a.1 in let b0 = b.0 in let b1 = b.1 in let c0 = c.0 in let c1 = c.1 in
    near_by (TextTop l) above below (l.0 -ℤ above) refl (omega (arith, ints, a1, c0), omega (arith, ints, a0, c1)) (omega (arith, ints, c0), omega (arith, ints, c1))
    (omega (arith, ints, a0, b0, c1), omega (arith, ints, a1, b1, c0))
raise_near (TextBottom l) above below =
    let a = near above in let b = near below in let c = near l.0 in
    let a0 = a.0 in let a1 = a.1 in let b0 = b.0 in let b1 = b.1 in let c0 = c.0 in let c1 = c.1 in
    near_by (TextBottom l) above below (below -ℤ l.0) refl (omega (arith, ints, b0, c1), omega (arith, ints, b1, c0)) (omega (arith, ints, a0, b0, c1), omega (arith, ints, a1, b1, c0))
    (omega (arith, ints, c0), omega (arith, ints, c1))
raise_near Top above below = still_near Top above below refl
raise_near Bottom above below = still_near Bottom above below refl

-- how far a part's baseline stands above its root's, and how far it reaches from that
record ReachNear (n : ℕ) (rise above below : ℤ) : Type 0 where
  rise_near : IsNear n rise
  over : IsNear n (rise +ℤ above)
  under : IsNear n (below -ℤ rise)

reach_same : (n : ℕ) (r q above below : ℤ) → r ≡ q → ReachNear n r above below → ReachNear n q above below
reach_same n r q above below e is = subst (λ (v : ℤ). ReachNear n v above below) e is

-- by where its parent's stands
reach_from : (s : Shift) (above below : ℤ) (m n : ℕ) (parent : ℤ) → m ≤ n → IsNear m parent → ReachNear (n + lift_by s above below) (parent +ℤ clamp_of (raise_by s above below)) above below
reach_from s above below m n parent le is =
    let w = raise_near s above below in
    let l = lift_by s above below in
    let p0 = is.0 in let p1 = is.1 in
    let a0 = w.raise.0 in let a1 = w.raise.1 in let b0 = w.over.0 in let b1 = w.over.1 in let c0 = w.under.0 in let c1 = w.under.1 in
    join n (lift_by s above below) parent (clamp_of (raise_by s above below)) above below (wider m n parent le is) w.raise w.over w.under
  where
    join : (n l : ℕ) (p r above below : ℤ) → IsNear n p → IsNear l r → IsNear l (r +ℤ above) → IsNear l (below -ℤ r) → ReachNear (n + l) (p +ℤ r) above below
    join n l p r above below x y z t =
        let x0 = x.0 in let x1 = x.1 in let y0 = y.0 in let y1 = y.1 in let z0 = z.0 in let z1 = z.1 in let t0 = t.0 in let t1 = t.1 in
        record {
          rise_near = (omega (arith, ints, x0, y0), omega (arith, ints, x1, y1));
          over = (omega (arith, ints, x0, z0), omega (arith, ints, x1, z1));
          under = (omega (arith, ints, x1, t0), omega (arith, ints, x0, t1));
        }

-- and where it is a root itself
reach_root : (s : Shift) (above below : ℤ) (n : ℕ) → ReachNear (n + lift_by s above below) (pos 0) above below
reach_root s above below n =
    let a = near above in let b = near below in
    let a0 = a.0 in let a1 = a.1 in let b0 = b.0 in let b1 = b.1 in
    record {
      rise_near = (omega (arith, ints), omega (arith, ints));
      over = (omega (arith, ints, a0), omega (arith, ints, a1));
      under = (omega (arith, ints, b0), omega (arith, ints, b1));
    }

module _ (strut : Part) (parts : List Part) (are : AreParts (strut ∷ parts)) where
  abbrev all : List Part
  all = strut ∷ parts

  abbrev other : ℕ → Part
  other k = part_at parts k

  -- the other parts, place by place
  part_near : (rises : List ℤ) (k : ℕ) (b : Bool) → begins (other k).shift ≡ b → at rises (suc k) ≡ rise_of all rises (suc k)
      → IsNear (lift_to parts (other k).parent) (at rises (other k).parent) → (other k).parent ≤ k
      → ReachNear (lift_to parts (suc k)) (at rises (suc k)) (other k).above.0 (other k).below.0
  part_near rises k true is e w le =
      reach_same _ (pos 0) (at rises (suc k)) _ _ (sym (e ∙ rw is refl)) (reach_root (other k).shift (other k).above.0 (other k).below.0 (lift_to parts k))
  part_near rises k false is e w le =
      reach_same _ (at rises (other k).parent +ℤ raise_of (other k)) (at rises (suc k)) _ _ (sym (e ∙ rw is refl))
      (reach_from (other k).shift (other k).above.0 (other k).below.0 (lift_to parts (other k).parent) (lift_to parts k) (at rises (other k).parent)
      (lift_up parts (other k).parent k le) w)

  rises_near : (rises : List ℤ) → HasRises all rises → (n k : ℕ) → k < n → k < length all → IsNear (lift_to parts k) (at rises k)
  rises_near rises has zero k lt within = absurd (omega arith)
  rises_near rises has (suc n) zero lt within = (let e = has.each zero within in (omega (arith, ints, e), omega (arith, ints, e)))
  rises_near rises has (suc n) (suc k) lt within =
      let b = are.before (suc k) (omega arith) within in
      (part_near rises k _ refl (has.each (suc k) within)
      (rises_near rises has n (other k).parent (omega (arith, b, lt)) (omega (arith, b, within))) (omega (arith, b))).rise_near

  reach_near : (rises : List ℤ) → HasRises all rises → (k : ℕ) → suc k < length all
      → ReachNear (lift_to parts (suc k)) (at rises (suc k)) (other k).above.0 (other k).below.0
  reach_near rises has k within =
      let b = are.before (suc k) (omega arith) within in
      part_near rises k _ refl (has.each (suc k) within)
      (rises_near rises has (suc k) (other k).parent (omega (arith, b)) (omega (arith, b, within))) (omega (arith, b))

  abbrev most : ℕ
  most = lift_of parts

  module _ (s : Subtrees) (is : AreSubtrees all s) (u : ℕ) (upper : IsNear u strut.above.0) (lower : IsNear u strut.below.0) where
    over_near : (k : ℕ) → suc k < length all → IsNear most (above_of all s.rises (suc k))
    over_near k lt = wider (lift_to parts (suc k)) most _ (lift_most parts (suc k)) (reach_near s.rises is.rises k lt).over

    under_near : (k : ℕ) → suc k < length all → IsNear most (below_of all s.rises (suc k))
    under_near k lt = wider (lift_to parts (suc k)) most _ (lift_most parts (suc k)) (reach_near s.rises is.rises k lt).under

    rise_most : (k : ℕ) → k < length all → IsNear most (at s.rises k)
    rise_most k lt = wider (lift_to parts k) most _ (lift_most parts k) (rises_near s.rises is.rises (suc k) k (omega arith) lt)

    no_root : slice_index s.roots 0 ≡ 0
    no_root = is.roots.each 0 are.strut

    -- a subtree of a part other than the strut
    other_near : (value : ℕ → ℤ) → ((k : ℕ) → suc k < length all → IsNear most (value (suc k))) → (root : ℕ) → 0 < root → (v : ℤ)
        → IsGreatest (InSubtree s.roots root) value v → IsNear most v
    other_near value each root some v g = go g.one_of.0 g.one_of.1 g.one_of.2
      where
        go : (k : ℕ) → InSubtree s.roots root k → value k ≡ v → IsNear most v
        go zero of e = absurd (let r = of.1 in let z = no_root in omega (arith, z, r, some))
        go (suc k) of e = (let l = of.0 in let m = is.roots.as_many in subst (IsNear most) e (each k (omega (arith, l, m))))

    -- that of the strut
    strut_near : (value : ℕ → ℤ) → ((k : ℕ) → suc k < length all → IsNear most (value (suc k))) → IsNear u (value 0) → (v : ℤ)
        → IsGreatest (InSubtree s.roots 0) value v → (neg_ℤ (pos u) ≤ℤ v) × (v ≤ℤ pos (u + most))
    strut_near value each first v g =
        let here : 0 < length s.roots = (let m = is.roots.as_many in let l = are.strut in omega (arith, m, l)) in
        let at_least = g.most 0 (here, no_root) in
        let low = first.0 in
        (omega (arith, ints, low, at_least), go g.one_of.0 g.one_of.1 g.one_of.2)
      where
        go : (k : ℕ) → InSubtree s.roots 0 k → value k ≡ v → v ≤ℤ pos (u + most)
        go zero of e = (let high = first.1 in omega (arith, ints, high, e))
        go (suc k) of e = (let l = of.0 in let m = is.roots.as_many in let high = (each k (omega (arith, l, m))).1 in omega (arith, ints, high, e))

    above_near : (root : ℕ) → root < length all → 0 < root → slice_index s.roots root ≡ root → IsNear most (at s.aboves root)
    above_near root lt some own = other_near (above_of all s.rises) over_near root some (at s.aboves root)
        (is.aboves root (let m = is.roots.as_many in omega (arith, m, lt)) own)

    below_near : (root : ℕ) → root < length all → 0 < root → slice_index s.roots root ≡ root → IsNear most (at s.belows root)
    below_near root lt some own = other_near (below_of all s.rises) under_near root some (at s.belows root)
        (is.belows root (let m = is.roots.as_many in omega (arith, m, lt)) own)

    strut_within : 0 < length s.roots
    strut_within = let m = is.roots.as_many in let l = are.strut in omega (arith, m, l)

    rise_none : at s.rises 0 ≡ pos 0
    rise_none = is.rises.each 0 are.strut

    strut_above : (neg_ℤ (pos u) ≤ℤ at s.aboves 0) × (at s.aboves 0 ≤ℤ pos (u + most))
    strut_above = strut_near (above_of all s.rises) over_near
        (let z = rise_none in let a = upper.0 in let b = upper.1 in (omega (arith, ints, z, a), omega (arith, ints, z, b)))
        (at s.aboves 0) (is.aboves 0 strut_within no_root)

    strut_below : (neg_ℤ (pos u) ≤ℤ at s.belows 0) × (at s.belows 0 ≤ℤ pos (u + most))
    strut_below = strut_near (below_of all s.rises) under_near
        (let z = rise_none in let a = lower.0 in let b = lower.1 in (omega (arith, ints, z, a), omega (arith, ints, z, b)))
        (at s.belows 0) (is.belows 0 strut_within no_root)

    raised_near : (edge : LineEdge) (beside floor v : ℤ) → neg_ℤ (pos u) ≤ℤ beside → (neg_ℤ (pos u) ≤ℤ floor) × (floor ≤ℤ pos (u + most))
        → IsRaised (IsAligned edge all) (beyond s beside) floor v → (neg_ℤ (pos u) ≤ℤ v) × (v ≤ℤ pos (u + 2 * most))
    raised_near edge beside floor v least fits r =
        let low = fits.0 in let from = r.from in (
          omega (arith, ints, low, from),
          elim r.least [
            | inl e ↦ (let high = fits.1 in omega (arith, ints, high, e))
            | inr found ↦ (
                let al = found.1 in
                let own = own_root all s.roots found.0 is.roots al.within al.no_strut (aligned_begins edge (part_at all found.0).shift al.aligned) in
                let a = (above_near found.0 al.within al.no_strut own).1 in
                let b = (below_near found.0 al.within al.no_strut own).1 in
                let e = found.2 in
                omega (arith, ints, a, b, e, least))
          ],
        )

    module _ (above below : ℤ) (line : IsLine all s above below) where
      line_below : (neg_ℤ (pos u) ≤ℤ below) × (below ≤ℤ pos (u + 2 * most))
      line_below = raised_near TopEdge (at s.aboves 0) (at s.belows 0) below strut_above.0 strut_below line.downward

      line_above : (neg_ℤ (pos u) ≤ℤ above) × (above ≤ℤ pos (u + 2 * most))
      line_above = raised_near BottomEdge below (at s.aboves 0) above line_below.0 strut_above line.upward

      base_by_near : (shift : Shift) (a b : ℤ) → IsNear most a → IsNear most b → IsNear (u + 3 * most) (base_by shift a b above below)
      base_by_near (By v) a b p q = (omega (arith, ints), omega (arith, ints))
      base_by_near (Middle v) a b p q = (omega (arith, ints), omega (arith, ints))
      base_by_near (TextTop v) a b p q = (omega (arith, ints), omega (arith, ints))
      base_by_near (TextBottom v) a b p q = (omega (arith, ints), omega (arith, ints))
      base_by_near Top a b p q =
          let c = line_above.0 in let d = line_above.1 in let e = p.0 in let f = p.1 in (omega (arith, ints, c, f), omega (arith, ints, d, e))
      base_by_near Bottom a b p q =
          let c = line_below.0 in let d = line_below.1 in let e = q.0 in let f = q.1 in (omega (arith, ints, d, e), omega (arith, ints, c, f))

      base_near : (root : ℕ) → root < length all → slice_index s.roots root ≡ root → IsNear (u + 3 * most) (base_of all s above below root)
      base_near zero lt own = (omega (arith, ints), omega (arith, ints))
      base_near (suc r) lt own = base_by_near (part_at all (suc r)).shift _ _ (above_near (suc r) lt (omega arith) own) (below_near (suc r) lt (omega arith) own)

      shift_near : (k : ℕ) → k < length all → IsNear (u + 4 * most) (shift_of all s above below k)
      shift_near k lt =
          let first = root_first all s.roots k are is.roots lt in
          let b = base_near (slice_index s.roots k) (omega (arith, first, lt)) (root_own all s.roots k are is.roots lt) in
          let r = rise_most k lt in
          wider ((u + 3 * most) + most) (u + 4 * most) _ (omega arith) (sum_near (u + 3 * most) most _ _ b r)

near_both : (u n : ℕ) (v : ℤ) → (neg_ℤ (pos u) ≤ℤ v) × (v ≤ℤ pos (u + n)) → IsNear (u + n) v
near_both u n v is = let a = is.0 in let b = is.1 in (omega (arith, ints, a), omega (arith, ints, b))

pub shapes_are_near_lem : ShapesAreNear
shapes_are_near_lem strut parts shape u are is upper lower = record {
  above = near_both u (2 * lift_of parts) _ (line_above strut parts are is.subtrees is.are_subtrees u upper lower shape.above.0 shape.below.0 is.line);
  below = near_both u (2 * lift_of parts) _ (line_below strut parts are is.subtrees is.are_subtrees u upper lower shape.above.0 shape.below.0 is.line);
  shifts = λ k d lt. (
      let e = is.as_many in
      let within : k < length (strut ∷ parts) = omega (arith, e, lt) in
      let w = shift_near strut parts are is.subtrees is.are_subtrees u upper lower shape.above.0 shape.below.0 is.line k within in
      let same = is.each k within in
      subst (λ (x : Unit). IsNear (u + 4 * lift_of parts) x.0) (get_or_default shape.shifts k no_length d lt)
      (subst (IsNear (u + 4 * lift_of parts)) (sym same) w));
}
