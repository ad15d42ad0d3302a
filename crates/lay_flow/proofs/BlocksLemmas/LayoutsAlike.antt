-- Two layouts in which the same boxes before a place have clearance are alike as far as runs have ended there.
use Rattle.std.proofs.Common.{◌≡◌, ◌⊎◌, ℕ, zero, suc, ◌<◌, ◌≤◌, true, false, ◌+ℤ◌, ◌-ℤ◌, List, length, sym, ap, ◌∙◌, arith, inl, inr, subst}
use Rattle.std.proofs.lemmas.Bool.{cases_lt}
use Rattle.lay_flow.specs.declared.blocks.flow_box.FlowBox.{FlowBox}
use Rattle.lay_flow.specs.Blocks.Boxes.{parent_at, parents_of}
use Rattle.lay_flow.proofs.BlocksLemmas.BoxTrees.{parent_before}
use Rattle.lay_doc.specs.Tree.{IsTree}
use Rattle.lay_margins.specs.Collapse.{collapse}
use Rattle.lay_flow.specs.Blocks.Lengths.{length_at}
use Rattle.lay_flow.specs.Blocks.Children.{flag_at}
use Rattle.lay_flow.specs.Blocks.MarginRuns.{Entry, margins, has_top, run_at, run_before}
use Rattle.lay_flow.specs.Blocks.BlockLayout.{BlockLayout}
use Rattle.lay_flow.specs.Blocks.BlockPositions.{IsBlockLayout, start_before}
use Rattle.lay_flow.specs.Blocks.Gathered.{Gathered}
use Rattle.lay_flow.specs.Blocks.MarginPlace.{IsPlace, IsAround, MarginPlace, margin_place}
use Rattle.lay_flow.proofs.BlocksLemmas.Truths.{true_or}
use Rattle.lay_flow.proofs.BlocksLemmas.RunsAgree.{Same}
use Rattle.lay_flow.proofs.BlocksLemmas.RunsUpTo.{runs_up_to, run_up_to}
use Rattle.lay_flow.proofs.BlocksLemmas.LayoutFacts.{mark_standing, mark_inherits, start_clears}
use Rattle.lay_flow.proofs.BlocksLemmas.GatheredRuns.{gathers, one_first}
use Rattle.lay_flow.proofs.BlocksLemmas.CollapsedThrough.{one_start}

-- the box at i stands outside the one at j, which ended before it
pub record EndedBefore (boxes : List FlowBox) (j m : ℕ) : Type 0 where
  pub place : ℕ
  pub after : j < place
  pub before : place < m
  pub outside : parent_at boxes place < j

pub open_or_ended : (boxes : List FlowBox) (j m : ℕ) → IsAround boxes j m ⊎ EndedBefore boxes j m
open_or_ended boxes j zero = inl (λ i low high. absurd (omega (arith, high)))
open_or_ended boxes j (suc m) = elim (open_or_ended boxes j m) [
  | inr e ↦ inr (record { place = e.place; after = e.after; before = let b = e.before in omega (arith, b); outside = e.outside })
  | inl inside ↦ elim (cases_lt j m) [
    | inr le ↦ inl (λ i low high. absurd (omega (arith, low, high, le)))
    | inl lt ↦ elim (cases_lt (parent_at boxes m) j) [
      | inl out ↦ inr (record { place = m; after = lt; before = omega arith; outside = out })
      | inr in_it ↦ inl (λ i low high. elim (cases_lt i m) [
        | inl before ↦ inside i low before
        | inr here ↦ (let e : i ≡ m = omega (arith, here, high) in rw e in_it)
      ])
    ]
  ]
]

-- the run that comes to a place was begun by clearance of the box at `first`, which is open
pub record IsHanging (boxes : List FlowBox) (y : BlockLayout) (first : ℕ) (at : MarginPlace) : Type 0 where
  pub clears : flag_at y.runs.clears first ≡ true
  pub above : first ≤ at.inner
  pub contains : IsAround boxes first at.next

module _ (boxes : List FlowBox) (tree : IsTree (parents_of boxes)) (y : BlockLayout) (is : IsBlockLayout boxes y)
    (z : BlockLayout) (also : IsBlockLayout boxes z) where
  -- a box whose bottom margin was passed
  pub record ClosedAlike (j : ℕ) : Type 0 where
    pub height : length_at y.places.heights j ≡ length_at z.places.heights j
    pub kept : flag_at y.runs.through j ≡ true → has_top (parent_at boxes j) (run_at y.runs.before_tops j) ≡ false → length_at y.places.marks j ≡ length_at z.places.marks j

  -- the layouts are alike at the place (p, m): the boxes before `first` have their marks
  pub record Alike (first p m : ℕ) : Type 0 where
    pub gathered : Gathered boxes y.runs first (margin_place p m)
    pub clears : (j : ℕ) → j < m → flag_at y.runs.clears j ≡ flag_at z.runs.clears j
    pub edges : (j : ℕ) → j < m → flag_at y.runs.clears j ≡ true → length_at y.clear_edges j ≡ length_at z.clear_edges j
    pub mark : (j : ℕ) → j < first → length_at y.places.marks j ≡ length_at z.places.marks j
    pub closed : (j : ℕ) → p < j → j < m → ClosedAlike j
    pub gone : (j i : ℕ) → j < i → i < m → parent_at boxes i < j → ClosedAlike j
    pub start : (start_before boxes y p m ≡ start_before boxes z p m) ⊎ IsHanging boxes y first (margin_place p m)

  module _ (first p m : ℕ) (at : IsPlace boxes p m) (was : Alike first p m) where
    pub same_runs : Same boxes y.runs z.runs (margin_place p m)
    same_runs = runs_up_to boxes tree y.runs z.runs is.has_runs also.has_runs m was.clears p m at (omega arith)

    pub same_run : run_before boxes y.runs p m ≡ run_before boxes z.runs p m
    same_run = run_up_to boxes tree y.runs z.runs is.has_runs also.has_runs m was.clears p m at (omega arith)

    pub also_gathered : Gathered boxes z.runs first (margin_place p m)
    also_gathered =
        let there = gathers boxes tree z.runs also.has_runs p m at in
        let e = same_run in
        let same = one_first boxes z.runs there.first first p m there.is_gathered was.gathered.most
        (λ j lt le. ap (has_top j) (sym e) ∙ was.gathered.own j le lt) (λ j lt low. ap (has_top j) (sym e) ∙ was.gathered.older j low) in
        subst (λ (f : ℕ). Gathered boxes z.runs f (margin_place p m)) same there.is_gathered

    -- the run ended: this is the whole run of the top margin of an open box in it
    pub record EndsIn (run : List Entry) (c : ℕ) : Type 0 where
      pub rise : run_at y.runs.top_runs c ≡ run
      pub also_rise : run_at z.runs.top_runs c ≡ run
      pub stands : flag_at y.runs.through c ≡ false
      pub also_stands : flag_at z.runs.through c ≡ false

    module _ (run : List Entry) (ended : (c : ℕ) → first ≤ c → c ≤ p → IsAround boxes c m → EndsIn run c) where
      some : 0 < length boxes
      some = let a = at.parent in let b = at.within in omega (arith, a, b)

      starts_there : (c : ℕ) → first ≤ c → c ≤ p → IsAround boxes c m → length_at y.places.starts c ≡ start_before boxes y p m
      starts_there c from above inside = let a = at.parent in
          one_start boxes tree y is first p m at was.gathered c c from above inside (omega arith) (omega (arith, above, a))

      also_starts : (c : ℕ) → first ≤ c → c ≤ p → IsAround boxes c m → length_at z.places.starts c ≡ start_before boxes z p m
      also_starts c from above inside = let a = at.parent in
          one_start boxes tree z also first p m at also_gathered c c from above inside (omega arith) (omega (arith, above, a))

      pub start_same : start_before boxes y p m ≡ start_before boxes z p m
      start_same = elim was.start [
        | inl e ↦ e
        | inr h ↦ (let pos = was.gathered.least in let up = h.above in let a = at.parent in let b = at.within in
            let there : first < length boxes = omega (arith, up, a, b) in
            let before : first < m = omega (arith, up, a) in
            let e = ended first (omega arith) up h.contains in
            let edge = was.edges first before h.clears in
            sym (starts_there first (omega arith) up h.contains)
            ∙ start_clears boxes y is first pos there h.clears e.stands
            ∙ (λ i. edge i -ℤ collapse (margins (e.rise i))) ∙ (λ i. length_at z.clear_edges first -ℤ collapse (margins (sym e.also_rise i)))
            ∙ sym (start_clears boxes z also first pos there (sym (was.clears first before) ∙ h.clears) e.also_stands)
            ∙ also_starts first (omega arith) up h.contains)
      ]

      open_mark : (j : ℕ) → first ≤ j → j ≤ p → IsAround boxes j m → length_at y.places.marks j ≡ length_at z.places.marks j
      open_mark j from above inside =
          let pos = was.gathered.least in let a = at.parent in let b = at.within in
          let e = ended j from above inside in
          mark_standing boxes y is j (omega (arith, pos, from)) (omega (arith, above, a, b)) e.stands
          ∙ (λ i. starts_there j from above inside i +ℤ collapse (margins (e.rise i)))
          ∙ (λ i. start_same i +ℤ collapse (margins run))
          ∙ (λ i. sym (also_starts j from above inside) i +ℤ collapse (margins (sym e.also_rise i)))
          ∙ sym (mark_standing boxes z also j (omega (arith, pos, from)) (omega (arith, above, a, b)) e.also_stands)

      closed_mark : (j : ℕ) → first ≤ j → j < m → flag_at y.runs.through j ≡ true → flag_at z.runs.through j ≡ true → ClosedAlike j
          → (parent_at boxes j < j → length_at y.places.marks (parent_at boxes j) ≡ length_at z.places.marks (parent_at boxes j)) → length_at y.places.marks j ≡ length_at z.places.marks j
      closed_mark j from lt through also_through closed up =
          let pos = was.gathered.least in let b = at.within in
          let there : j < length boxes = omega (arith, lt, b) in
          let positive : 0 < j = omega (arith, pos, from) in
          let lead = same_runs.lead j lt in
          true_or (has_top (parent_at boxes j) (run_at y.runs.before_tops j)) (length_at y.places.marks j ≡ length_at z.places.marks j)
          (λ t. mark_inherits boxes y is j positive there through t
          ∙ up (parent_before boxes tree j positive there)
          ∙ sym (mark_inherits boxes z also j positive there also_through (ap (has_top (parent_at boxes j)) (sym lead) ∙ t)))
          (closed.kept through)

      marks_to : (fuel j : ℕ) → j < fuel → j < m → length_at y.places.marks j ≡ length_at z.places.marks j
      marks_to zero j small lt = absurd (omega (arith, small))
      marks_to (suc fuel) j small lt =
          let up : parent_at boxes j < j → length_at y.places.marks (parent_at boxes j) ≡ length_at z.places.marks (parent_at boxes j) = λ b. marks_to fuel (parent_at boxes j) (omega (arith, b, small)) (omega (arith, b, lt)) in
          elim (cases_lt j first) [
            | inl low ↦ was.mark j low
            | inr from ↦ elim (cases_lt p j) [
              | inl after ↦ closed_mark j from lt (was.gathered.closed j from after lt) (also_gathered.closed j from after lt) (was.closed j after lt) up
              | inr above ↦ elim (open_or_ended boxes j m) [
                | inl inside ↦ open_mark j from above inside
                | inr e ↦ closed_mark j from lt (was.gathered.gone j e.place from e.after e.before e.outside) (also_gathered.gone j e.place from e.after e.before e.outside) (was.gone j e.place e.after e.before e.outside) up
              ]
            ]
          ]

      -- the boxes of the run have their marks
      pub marks_same : (j : ℕ) → j < m → length_at y.places.marks j ≡ length_at z.places.marks j
      marks_same j lt = marks_to (suc j) j (omega arith) lt
