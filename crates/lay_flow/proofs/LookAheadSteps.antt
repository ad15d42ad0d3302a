-- The steps of a look ahead.
use Rattle.std.proofs.Common.{◌≡◌, ℕ, zero, suc, ◌+◌, ◌<◌, ◌≤◌, ◌==◌, ◌||◌, not, ap, Bool, true, false, List, length, refl, sym, ◌∙◌, arith, inl, inr}
use Rattle.std.proofs.lemmas.Bool.{cases_lt, ne_eqb}
use Rattle.lay_flow.specs.declared.blocks.flow_box.FlowBox.{FlowBox}
use Rattle.lay_flow.specs.Blocks.Boxes.{parent_at, parents_of}
use Rattle.lay_flow.proofs.BlocksLemmas.BoxTrees.{parent_before, parents_together}
use Rattle.lay_doc.specs.Tree.{IsTree}
use Rattle.lay_margins.specs.StrutValue.{StrutValue}
use Rattle.lay_flow.specs.declared.hypothetical_edge.Outset.{Outset}
use Rattle.lay_flow.specs.Blocks.MarginRuns.{block_at, is_zero, parts_tops, may_collapse_through}
use Rattle.lay_flow.specs.Blocks.MarginPlace.{IsPlace, IsAround}
use Rattle.lay_flow.specs.Pass.Struts.{StrutFits}
use Rattle.lay_flow.specs.Pass.LookAhead.{IsOutset, IsReading, HasLookedAhead, reading}
use Rattle.lay_flow.proofs.BlocksLemmas.Truths.{true_or, low_not}
use Rattle.lay_flow.proofs.BlocksLemmas.MarginWalk.{inside_up}
use Rattle.lay_flow.proofs.Openings.{WithMargin}
use Rattle.lay_flow.proofs.LookAhead.{reads_top, ends_below_top, ends_inside_box, ends_before_bottom, reads_bottom}

module _ (boxes : List FlowBox) (tree : IsTree (parents_of boxes)) (from : Outset) (out : IsOutset boxes from) where
  module _ (m : ℕ) (within : m < length boxes) (strut next : StrutValue) (was : IsReading boxes from (reading strut (parent_at boxes m) m)) (fits : StrutFits next) (adds : WithMargin strut next (block_at boxes m).margin_top.0) where
    pub opened_reading : parts_tops boxes m ≡ false → IsReading boxes from (reading next m (m + 1))
    opened_reading plain =
        let begun = was.begun in
        let o = out.is_outermost.most in
        let lt_parent = was.place.parent in
        record {
          fits = fits;
          place = record { parent = omega arith; within = omega (arith, within); inside = λ i a b. absurd (omega (arith, a, b)); next = λ w. let t = parent_before boxes tree (m + 1) (omega arith) w in omega (arith, t) };
          begun = omega (arith, begun);
          first_place = λ e. absurd (omega (arith, e, begun));
          above = λ lt. omega (arith, o, begun);
          inside = λ lt i a b. elim (cases_lt i m) [
            | inl before ↦ was.inside (omega (arith, a, before)) i a before
            | inr here ↦ (let e : i ≡ m = omega (arith, here, b) in let u = was.above (omega (arith, a, e)) in rw e u)
          ];
          reads = λ w is comes. reads_top boxes tree w is from out comes m begun within strut
              (was.reads w is comes) next (adds _ (was.reads w is comes).strut_holds) plain;
        }

    pub opened_read : parts_tops boxes m ≡ true → HasLookedAhead boxes from next
    opened_read parts = record {
      fits = fits;
      reads_all = λ w is comes. ends_below_top boxes tree w is from out comes m was.begun within strut
          (was.reads w is comes) next (adds _ (was.reads w is comes).strut_holds) parts was.place;
    }

  module _ (p m : ℕ) (strut : StrutValue) (was : IsReading boxes from (reading strut p m)) (after : from.k < m) (ends : m < length boxes → parent_at boxes m < p) where
    least : from.outermost ≤ p
    least = let o = out.is_outermost.most in was.above (omega (arith, o, after))

    pub closed_read : may_collapse_through (block_at boxes p) ≡ false → HasLookedAhead boxes from strut
    closed_read parts = record {
      fits = was.fits;
      reads_all = λ w is comes. ends_inside_box boxes tree w is from out comes p m was.place least after ends strut
          (was.reads w is comes) parts;
    }

    pub closed_last : p ≡ from.outermost → HasLookedAhead boxes from strut
    closed_last last = record {
      fits = was.fits;
      reads_all = λ w is comes. true_or (may_collapse_through (block_at boxes p)) _
          (λ passes. ends_before_bottom boxes tree w is from out comes p m was.place least after ends strut
          (was.reads w is comes) last passes)
          (λ parts. ends_inside_box boxes tree w is from out comes p m was.place least after ends strut
          (was.reads w is comes) parts);
    }

    pub closed_reading : (next : StrutValue) → StrutFits next → WithMargin strut next (block_at boxes p).margin_bottom.0 → (p ≡ from.outermost → ⊥) → may_collapse_through (block_at boxes p) ≡ true → IsReading boxes from (reading next (parent_at boxes p) m)
    closed_reading next fits adds other passes =
        let a = was.place.parent in let b = was.place.within in
        let o = out.is_outermost.most in let pos = out.is_outermost.positive in
        let l = least in
        let inner : p < length boxes = omega (arith, a, b) in
        let up = parent_before boxes tree p (omega (arith, l, pos)) inner in
        let round : IsAround boxes from.outermost m = was.inside (omega (arith, o, after)) in
        record {
          fits = fits;
          place = record {
            parent = omega (arith, up, a);
            within = b;
            inside = inside_up boxes tree p m inner up was.place.inside;
            next = λ w. let e = ends w in parents_together boxes tree p m a w e;
          };
          begun = was.begun;
          first_place = λ e. absurd (omega (arith, e, after));
          above = λ lt. round p (omega (arith, l, λ (e : p ≡ from.outermost). other e)) a;
          inside = λ lt. round;
          reads = λ w is comes. reads_bottom boxes tree w is from out comes p m was.place least after ends strut
              (was.reads w is comes) other passes next (adds _ (was.reads w is comes).strut_holds) round;
        }

pub parts_is : (boxes : List FlowBox) (m : ℕ) → 0 < m → parts_tops boxes m ≡ not (is_zero (block_at boxes m).edge_top.0)
parts_is boxes zero positive = absurd (omega (arith, positive))
parts_is boxes (suc m) positive = refl

-- the look ahead goes on past the bottom margin of the box at p
pub record GoesPast (p outermost : ℕ) (may : Bool) : Type 0 where
  pub other : p ≡ outermost → ⊥
  pub passes : may ≡ true

pub goes_past : (p outermost : ℕ) (may : Bool) → (p == outermost || not may) ≡ false → GoesPast p outermost may
goes_past p outermost may e = record {
  other = λ same. grind (arith, e, same);
  passes = grind (arith, e);
}

pub ends_parted : (p outermost : ℕ) (passes : Bool) → (p ≡ outermost → ⊥) → (p == outermost || not passes) ≡ true → passes ≡ false
ends_parted p outermost passes other e = let f : (p == outermost) ≡ false = ne_eqb p outermost other in let g = rw f at e in grind (arith, g)

-- boxes are closed after the look ahead has opened the first
pub after_outset : (boxes : List FlowBox) (from : Outset) → IsOutset boxes from → (p to m : ℕ) → from.k ≤ m → (m ≡ from.k → p ≡ parent_at boxes from.k) → (m < length boxes → parent_at boxes m ≡ to) → (p ≡ to → ⊥) → from.k < m
after_outset boxes from out p to m begun first next other = elim (cases_lt from.k m) [
  | inl lt ↦ lt
  | inr ge ↦ (let e : m ≡ from.k = omega (arith, ge, begun) in let w = out.within in let a = first e in let b = next (omega (arith, e, w)) in absurd (other (a ∙ sym (ap (parent_at boxes) e) ∙ b)))
]

-- a look ahead ends before all boxes are closed
pub ends_before_root : (boxes : List FlowBox) (from : Outset) → IsOutset boxes from → (strut : StrutValue) → IsReading boxes from (reading strut 0 (length boxes)) → ⊥
ends_before_root boxes from out strut was =
    let o = out.is_outermost.most in let pos = out.is_outermost.positive in let w = out.within in
    let a = was.above (omega (arith, o, w)) in
    omega (arith, a, pos)

-- the look ahead begins
pub begins_reading : (boxes : List FlowBox) (from : Outset) → IsOutset boxes from → StrutFits from.strut → IsPlace boxes (parent_at boxes from.k) from.k → IsReading boxes from (reading from.strut (parent_at boxes from.k) from.k)
begins_reading boxes from begins fits place =
    let outer = begins.is_outermost in
    let most = outer.most in
    record {
      fits = fits;
      place = place;
      begun = omega arith;
      first_place = λ e. refl;
      above = λ lt. outer.inside from.k lt (omega arith);
      inside = λ lt i low high. outer.inside i low (omega (arith, high));
      reads = λ w is comes. record {
        strut_holds = comes.strut_holds;
        own = λ lt. comes.tops from.outermost lt ∙ low_not from.outermost from.first (outer.from lt);
        holder = λ lt. absurd (omega (arith, lt));
      };
    }
