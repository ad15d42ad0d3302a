-- What stands in a box that is collapsed through is collapsed through, and what stands in one run starts where it does.
use Rattle.std.proofs.Common.{◌≡◌, ℕ, zero, suc, ◌+◌, ◌-◌, ◌<◌, ◌≤◌, not, nat_lt, Bool, true, false, List, length, refl, sym, ◌∙◌, arith, inl, inr, ap}
use Rattle.std.proofs.lemmas.Bool.{cases_lt, and_parts}
use Rattle.lay_flow.specs.declared.blocks.flow_box.FlowBox.{FlowBox}
use Rattle.lay_flow.specs.Blocks.Boxes.{parent_at, parents_of}
use Rattle.lay_flow.proofs.BlocksLemmas.BoxTrees.{parent_before}
use Rattle.lay_doc.specs.Tree.{IsTree}
use Rattle.lay_flow.specs.Blocks.Lengths.{length_at}
use Rattle.lay_flow.specs.Blocks.Children.{flag_at}
use Rattle.lay_flow.specs.Blocks.MarginRuns.{Runs, HasRuns, block_at, parts_tops, joins_bottom, may_collapse_through}
use Rattle.lay_flow.specs.Blocks.BlockLayout.{BlockLayout}
use Rattle.lay_flow.specs.Blocks.BlockPositions.{start_before, IsBlockLayout}
use Rattle.lay_flow.specs.Blocks.MarginPlace.{IsPlace, IsAround, margin_place}
use Rattle.lay_flow.proofs.BlocksLemmas.MarginWalk.{walk_to}
use Rattle.lay_flow.specs.Blocks.Gathered.{Gathered}
use Rattle.lay_flow.proofs.BlocksLemmas.Truths.{not_low}
use Rattle.lay_flow.proofs.BlocksLemmas.LayoutFacts.{start_flows}
use Rattle.lay_flow.proofs.BlocksLemmas.GatheredRuns.{gathers, one_first, childless, open_plain, open_cleared, open_parting, close_joined, close_parted, joined_through, last_up, passes_here, begins}

-- the boxes in the one at d end before the place m
pub record EndsBefore (boxes : List FlowBox) (d m : ℕ) : Type 0 where
  pub parent : d < m
  pub within : m ≤ length boxes
  pub inside : IsAround boxes d m
  pub ends : m < length boxes → parent_at boxes m < d

pub record SomeEnd (boxes : List FlowBox) (d : ℕ) : Type 0 where
  pub end : ℕ
  pub ends : EndsBefore boxes d end

end_from : (boxes : List FlowBox) (d m fuel : ℕ) → m + fuel ≡ length boxes → d < m → IsAround boxes d m → SomeEnd boxes d
end_from boxes d m zero e lt inside = record { end = m; ends = record { parent = lt; within = omega (arith, e); inside = inside; ends = λ w. absurd (omega (arith, e, w)) } }
end_from boxes d m (suc fuel) e lt inside = elim (cases_lt (parent_at boxes m) d) [
  | inl low ↦ record { end = m; ends = record { parent = lt; within = omega (arith, e); inside = inside; ends = λ w. low } }
  | inr high ↦ end_from boxes d (m + 1) fuel (omega (arith, e)) (omega (arith, lt)) (λ i a b. elim (cases_lt i m) [
    | inl before ↦ inside i a before
    | inr from ↦ (let here : i ≡ m = omega (arith, from, b) in rw here high)
  ])
]

pub end_of : (boxes : List FlowBox) (d : ℕ) → d < length boxes → SomeEnd boxes d
end_of boxes d lt = end_from boxes d (d + 1) (length boxes - (d + 1)) (omega (arith, lt)) (omega arith) (λ i a b. absurd (omega (arith, a, b)))

pub end_place : (boxes : List FlowBox) (d m : ℕ) → EndsBefore boxes d m → IsPlace boxes d m
end_place boxes d m e = record { parent = e.parent; within = e.within; inside = e.inside; next = λ w. let l = e.ends w in omega (arith, l) }

-- no margin of the box parts the run that goes through the box round it
pub record Passes (boxes : List FlowBox) (r : Runs) (k : ℕ) : Type 0 where
  pub through : flag_at r.through k ≡ true
  pub unclear : flag_at r.clears k ≡ false
  pub unparted : parts_tops boxes k ≡ false

module _ (boxes : List FlowBox) (tree : IsTree (parents_of boxes)) (r : Runs) (is : HasRuns boxes r) where
  pub through_inside : (d k : ℕ) → 0 < d → d < k → k < length boxes → IsAround boxes d (k + 1) → flag_at r.through d ≡ true → Passes boxes r k
  through_inside d k positive lt within inside through =
      let end = end_of boxes d (omega (arith, lt, within)) in
      let e = end.ends in
      let m : ℕ = end.end in
      let there = gathers boxes tree r is d m (end_place boxes d m e) in
      let f : ℕ = there.first in
      let g = there.is_gathered in
      let own : f ≤ d = not_low d f (and_parts (may_collapse_through (block_at boxes d)) (not (nat_lt d f)) (sym (passes_here boxes tree r is d m positive e.parent e.within e.ends e.inside f g) ∙ through)).1 in
      let low : k < m = elim (cases_lt k m) [
        | inl low ↦ low
        | inr high ↦ (let a = e.ends (omega (arith, high, within)) in let p = e.parent in let b = inside m p (omega (arith, high)) in absurd (omega (arith, a, b)))
      ] in
      record {
        through = g.closed k (omega (arith, own, lt)) lt low;
        unclear = g.unclear k (omega (arith, own, lt)) low;
        unparted = g.unparted k (omega (arith, own, lt)) low;
      }

module _ (boxes : List FlowBox) (tree : IsTree (parents_of boxes)) (y : BlockLayout) (is : IsBlockLayout boxes y) where
  -- while one of the boxes of a run is open, the run hasn't moved
  record Started (p m : ℕ) : Type 0 where
    pub first : ℕ
    pub is_gathered : Gathered boxes y.runs first (margin_place p m)
    pub starts : (d j : ℕ) → first ≤ d → d ≤ p → IsAround boxes d m → d ≤ j → j < m → length_at y.places.starts j ≡ start_before boxes y p m

  pub start_inside : (k : ℕ) → 0 < k → k < length boxes → parts_tops boxes k ≡ false → length_at y.places.starts k ≡ start_before boxes y k (k + 1)
  start_inside k positive within plain = let e = childless boxes tree y.runs is.has_runs k positive within in rw (e, plain) refl

  opens_started : (k : ℕ) → 0 < k → k < length boxes → Started (parent_at boxes k) k → Started k (k + 1)
  opens_started k positive within was = go (parts_tops boxes k) refl (flag_at y.runs.clears k) refl
    where
      go : (b : Bool) → parts_tops boxes k ≡ b → (c : Bool) → flag_at y.runs.clears k ≡ c → Started k (k + 1)
      go true parts c e = record { first = k + 1; is_gathered = open_parting boxes tree y.runs is.has_runs k positive within parts; starts = λ d j a b holds over lt. absurd (omega (arith, a, b)) }
      go false plain true cleared = record {
        first = k;
        is_gathered = open_cleared boxes tree y.runs is.has_runs k positive within plain cleared;
        starts = λ d j a b holds over lt. let e : j ≡ k = omega (arith, a, over, lt) in ap (length_at y.places.starts) e ∙ start_inside k positive within plain;
      }
      go false plain false unclear = record {
        first = was.first;
        is_gathered = open_plain boxes tree y.runs is.has_runs k positive within was.first was.is_gathered plain unclear;
        starts = λ d j a b holds over lt. elim (cases_lt j k) [
          | inl low ↦ was.starts d j a (holds k (omega (arith, over, low)) (omega arith)) (λ i x z. holds i x (omega (arith, z))) over low
              ∙ sym (start_flows boxes y is k positive within unclear) ∙ start_inside k positive within plain
          | inr high ↦ (let e : j ≡ k = omega (arith, lt, high) in ap (length_at y.places.starts) e ∙ start_inside k positive within plain)
        ];
      }

  closes_started : (p m : ℕ) → 0 < p → p < m → m ≤ length boxes → (m < length boxes → parent_at boxes m < p) → IsAround boxes p m → Started p m → Started (parent_at boxes p) m
  closes_started p m positive lt within ends inside was = go (joins_bottom boxes y.runs p) refl
    where
      less : parent_at boxes p < p
      less = parent_before boxes tree p positive (omega (arith, lt, within))

      go : (b : Bool) → joins_bottom boxes y.runs p ≡ b → Started (parent_at boxes p) m
      go false parted = record {
        first = m;
        is_gathered = close_parted boxes tree y.runs is.has_runs p m positive lt within ends inside parted;
        starts = λ d j a b holds over low. absurd (omega (arith, a, over, low));
      }
      go true joined = record {
        first = was.first;
        is_gathered = close_joined boxes tree y.runs is.has_runs p m positive lt within ends inside was.first was.is_gathered joined;
        starts = λ d j a b holds over low.
            let through = joined_through boxes tree y.runs is.has_runs p m positive lt within ends inside was.first was.is_gathered joined (omega (arith, a, b, less)) in
            let last = last_up boxes tree y.runs is.has_runs p m positive lt within ends inside in
            let below : start_before boxes y (parent_at boxes p) m ≡ length_at y.places.starts p = rw (last, through) refl in
            was.starts d j a (omega (arith, b, less)) holds over low ∙ sym (was.starts d p a (omega (arith, b, less)) holds (omega (arith, b, less)) lt) ∙ sym below;
      }

  -- the boxes in an open box whose top margin is in the run start where the run does
  pub one_start : (first p m : ℕ) → IsPlace boxes p m → Gathered boxes y.runs first (margin_place p m) → (d j : ℕ) → first ≤ d → d ≤ p → IsAround boxes d m → d ≤ j → j < m → length_at y.places.starts j ≡ start_before boxes y p m
  one_start first p m at g d j a b holds over lt =
      let some : 0 < length boxes = let x = at.parent in let z = at.within in omega (arith, x, z) in
      let there = walk_to boxes tree Started closes_started opens_started (record {
        first = 1;
        is_gathered = begins boxes tree y.runs is.has_runs some;
        starts = λ d j a b holds over lt. absurd (omega (arith, a, b));
      }) p m at in
      let same = one_first boxes y.runs there.first first p m there.is_gathered g.most (λ i x z. g.own i z x) (λ i x z. g.older i z) in
      there.starts d j (omega (arith, a, same)) b holds over lt
