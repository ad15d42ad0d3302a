-- Two layouts stay alike where a box is closed.
use Rattle.std.proofs.Common.{◌≡◌, ℕ, ◌<◌, ◌≤◌, ◌&&◌, ◌||◌, not, Bool, true, false, pos, ◌+ℤ◌, ◌-ℤ◌, List, length, refl, sym, ap, ◌∙◌, arith, inl, inr, subst, Option, Some, None}
use Rattle.std.proofs.lemmas.Bool.{cases_lt, cases_eq}
use Rattle.lay_flow.specs.declared.blocks.flow_box.FlowBox.{FlowBox}
use Rattle.lay_flow.specs.Blocks.Boxes.{parent_at, parents_of}
use Rattle.lay_flow.proofs.BlocksLemmas.BoxTrees.{parent_before, parents_together}
use Rattle.lay_doc.specs.Tree.{IsTree}
use Rattle.lay_margins.specs.Collapse.{collapse}
use Rattle.lay_flow.specs.Blocks.Lengths.{length_at}
use Rattle.lay_flow.specs.Blocks.Children.{flag_at, last_child}
use Rattle.lay_flow.specs.Blocks.MarginRuns.{margins, has_top, is_barred, block_at, run_at, run_before, joins_bottom, may_join_bottoms, may_collapse_through}
use Rattle.lay_flow.specs.Blocks.BlockLayout.{BlockLayout}
use Rattle.lay_flow.specs.Blocks.BlockPositions.{IsBlockLayout, start_before, start_below, border_height}
use Rattle.lay_flow.specs.Blocks.Gathered.{Gathered}
use Rattle.lay_flow.specs.Blocks.MarginPlace.{IsPlace, IsAround, margin_place}
use Rattle.lay_flow.proofs.BlocksLemmas.ContentHeights.{content_bottom, content_inner}
use Rattle.lay_flow.proofs.BlocksLemmas.Truths.{true_false, true_or, low_yes, low_not}
use Rattle.lay_flow.proofs.BlocksLemmas.RunsAgree.{Same, Closed, last_there}
use Rattle.lay_flow.proofs.BlocksLemmas.MarginWalk.{inside_up}
use Rattle.lay_flow.proofs.BlocksLemmas.RunsUpTo.{runs_up_to}
use Rattle.lay_flow.proofs.BlocksLemmas.RunFacts.{ends_inside, joins_is}
use Rattle.lay_flow.proofs.BlocksLemmas.LayoutFacts.{mark_through, start_clears_through}
use Rattle.lay_flow.proofs.BlocksLemmas.GatheredRuns.{childless_on, close_joined, close_parted, joined_through, passes_here, comes_here, last_over, last_up}
use Rattle.lay_flow.proofs.BlocksLemmas.CollapsedThrough.{through_inside, one_start}
use Rattle.lay_flow.proofs.BlocksLemmas.HangingRuns.{stands_at_edge}
use Rattle.lay_flow.proofs.BlocksLemmas.LayoutsAlike.{IsHanging, ClosedAlike, EndsIn, same_runs, same_run, also_gathered, start_same, marks_same}
use Rattle.lay_flow.proofs.BlocksLemmas.AlikeSteps.{AlikeAt, IsClosed, StartsAlike, MarksTo}

module _ (boxes : List FlowBox) (tree : IsTree (parents_of boxes)) (y : BlockLayout) (is : IsBlockLayout boxes y)
    (z : BlockLayout) (also : IsBlockLayout boxes z)
    (first p m : ℕ) (positive : 0 < p) (was : AlikeAt boxes tree y is z also first p m) (ends : m < length boxes → parent_at boxes m < p) where
  lt : p < m
  lt = was.gathered.parent

  within : m ≤ length boxes
  within = was.gathered.within

  inner : p < length boxes
  inner = let a = lt in let b = within in omega (arith, a, b)

  up : parent_at boxes p < p
  up = parent_before boxes tree p positive inner

  pub at : IsPlace boxes p m
  at = record { parent = lt; within = within; inside = was.gathered.inside; next = λ w. let e = ends w in omega (arith, e) }

  at_up : IsPlace boxes (parent_at boxes p) m
  at_up = record {
    parent = let a = lt in let b = up in omega (arith, a, b);
    within = within;
    inside = inside_up boxes tree p m inner up was.gathered.inside;
    next = λ w. let e = ends w in parents_together boxes tree p m lt w e;
  }

  gathered_z : Gathered boxes z.runs first (margin_place p m)
  gathered_z = also_gathered boxes tree y is z also first p m at was

  run_is : run_before boxes y.runs p m ≡ run_before boxes z.runs p m
  run_is = same_run boxes tree y is z also first p m at was

  -- its own run comes to its end alike
  run_end : run_before boxes y.runs p (length boxes) ≡ run_before boxes z.runs p (length boxes)
  run_end = comes_here boxes tree y.runs is.has_runs p m positive lt within ends was.gathered.inside ∙ run_is ∙ sym (comes_here boxes tree z.runs also.has_runs p m positive lt within ends was.gathered.inside)

  closed_runs : Closed y.runs z.runs p
  closed_runs = (runs_up_to boxes tree y.runs z.runs is.has_runs also.has_runs m was.clears (parent_at boxes p) m at_up (omega arith)).closed p up lt

  joins_same : joins_bottom boxes y.runs p ≡ joins_bottom boxes z.runs p
  joins_same = let a = closed_runs.pass in let b = run_end in
      joins_is boxes y.runs p positive
      ∙ (λ i. a i || (may_join_bottoms (block_at boxes p) && not (is_barred boxes p (b i))))
      ∙ sym (joins_is boxes z.runs p positive)

  last_y : last_child boxes (parent_at boxes p) m ≡ Some p
  last_y = last_up boxes tree y.runs is.has_runs p m positive lt within ends was.gathered.inside

  last_end : last_child boxes p (length boxes) ≡ last_child boxes p m
  last_end = last_over boxes tree y.runs is.has_runs p m positive lt within ends was.gathered.inside

  abbrev MarkSame : Type 0
  MarkSame = length_at y.places.marks p ≡ length_at z.places.marks p

  closed_up : (next : ℕ) → Gathered boxes y.runs next (margin_place (parent_at boxes p) m) → MarksTo boxes tree y is z also next
      → IsClosed boxes tree y is z also p → StartsAlike boxes tree y is z also next (parent_at boxes p) m
      → AlikeAt boxes tree y is z also next (parent_at boxes p) m
  closed_up next g marks here start = record {
    gathered = g;
    clears = was.clears;
    edges = was.edges;
    mark = marks;
    closed = λ j low high. elim (cases_lt j p) [
      | inl before ↦ was.gone j p before lt low
      | inr from ↦ elim (cases_eq j p) [
        | inl e ↦ subst (ClosedAlike boxes tree y is z also) (sym e) here
        | inr ne ↦ was.closed j (omega (arith, from, ne)) high
      ]
    ];
    gone = was.gone;
    start = start;
  }

  -- the heights of a box that isn't collapsed through
  start_there : (r : BlockLayout) (c : ℕ) → last_child boxes p m ≡ Some c → start_below r c ≡ start_before boxes r p m
  start_there r c e = rw e refl

  bottom_same : start_before boxes y p m ≡ start_before boxes z p m → MarkSame → length_at y.extents.depths p ≡ length_at z.extents.depths p → content_bottom boxes y p ≡ content_bottom boxes z p
  bottom_same start mark extent = go (last_child boxes p m) refl
    where
      runs : Same boxes y.runs z.runs (margin_place p m)
      runs = same_runs boxes tree y is z also first p m at was

      go : (o : Option ℕ) → last_child boxes p m ≡ o → content_bottom boxes y p ≡ content_bottom boxes z p
      go None e = let g = last_end ∙ e in rw (g, mark, extent) refl
      go (Some c) e =
          let g = last_end ∙ e in
          let l = last_there boxes p m c e in
          let below = start_there y c e ∙ start ∙ sym (start_there z c e) in
          let tail = (runs.closed c l.0 l.1).tail in
          let j = joins_same in
          rw (g, below, tail, j, mark, extent) refl

  height_standing : start_before boxes y p m ≡ start_before boxes z p m → MarkSame → length_at y.extents.depths p ≡ length_at z.extents.depths p → flag_at y.runs.through p ≡ false
      → length_at y.places.heights p ≡ length_at z.places.heights p
  height_standing start mark extent stands =
      let also_stands : flag_at z.runs.through p ≡ false = sym closed_runs.pass ∙ stands in
      let b = bottom_same start mark extent in
      let h : length_at y.places.heights p ≡ border_height (block_at boxes p) (length_at y.extents.depths p) (content_bottom boxes y p -ℤ (length_at y.places.marks p +ℤ (block_at boxes p).edge_top.0)) = is.has_positions.height p inner ∙ (let e = content_inner boxes y p positive in rw (stands, e) refl) in
      let k : length_at z.places.heights p ≡ border_height (block_at boxes p) (length_at z.extents.depths p) (content_bottom boxes z p -ℤ (length_at z.places.marks p +ℤ (block_at boxes p).edge_top.0)) = also.has_positions.height p inner ∙ (let e = content_inner boxes z p positive in rw (also_stands, e) refl) in
      h ∙ (λ i. border_height (block_at boxes p) (extent i) (b i -ℤ (mark i +ℤ (block_at boxes p).edge_top.0))) ∙ sym k

  -- what follows a box that isn't collapsed through starts below it
  start_standing : (r : BlockLayout) → flag_at r.runs.through p ≡ false → start_before boxes r (parent_at boxes p) m ≡ length_at r.places.marks p +ℤ length_at r.places.heights p
  start_standing r stands = let e = last_y in rw (e, stands) refl

  start_through : (r : BlockLayout) → flag_at r.runs.through p ≡ true → start_before boxes r (parent_at boxes p) m ≡ length_at r.places.starts p
  start_through r through = let e = last_y in rw (e, through) refl

  closed_standing : flag_at y.runs.through p ≡ false → start_before boxes y p m ≡ start_before boxes z p m → MarkSame → length_at y.extents.depths p ≡ length_at z.extents.depths p
      → (next : ℕ) → Gathered boxes y.runs next (margin_place (parent_at boxes p) m) → MarksTo boxes tree y is z also next
      → AlikeAt boxes tree y is z also next (parent_at boxes p) m
  closed_standing stands start mark extent next g marks =
      let height = height_standing start mark extent stands in
      closed_up next g marks (record { height = height; kept = λ t top. mark })
      (inl (start_standing y stands ∙ (λ i. mark i +ℤ height i) ∙ sym (start_standing z (sym closed_runs.pass ∙ stands))))

  -- its bottom margin begins a run
  ended_here : joins_bottom boxes y.runs p ≡ false → (c : ℕ) → first ≤ c → c ≤ p → IsAround boxes c m → EndsIn boxes tree y is z also first p m at was (run_before boxes y.runs p m) c
  ended_here parted c from above inside =
      let least = was.gathered.least in
      let also_parted : joins_bottom boxes z.runs p ≡ false = sym joins_same ∙ parted in
      let e = run_is in
      record {
        rise = was.gathered.rise c from above inside ∙ ends_inside boxes y.runs p m (childless_on boxes tree y.runs is.has_runs p m positive lt within ends was.gathered.inside) parted;
        also_rise = gathered_z.rise c from above inside ∙ ends_inside boxes z.runs p m (childless_on boxes tree z.runs also.has_runs p m positive lt within ends was.gathered.inside) also_parted ∙ sym e;
        stands = true_or (flag_at y.runs.through c) (flag_at y.runs.through c ≡ false) (λ t. absurd (true_false (flag_at y.runs.through p) (through_too y is c (omega (arith, least, from)) above inside t) (parted_stands y parted))) (λ f. f);
        also_stands = true_or (flag_at z.runs.through c) (flag_at z.runs.through c ≡ false) (λ t. absurd (true_false (flag_at z.runs.through p) (also_through_too c (omega (arith, least, from)) above inside t) (parted_stands z also_parted))) (λ f. f);
      }
    where
      parted_stands : (r : BlockLayout) → joins_bottom boxes r.runs p ≡ false → flag_at r.runs.through p ≡ false
      parted_stands r j = left_false (flag_at r.runs.through p) (may_join_bottoms (block_at boxes p) && not (is_barred boxes p (run_before boxes r.runs p (length boxes)))) (sym (joins_is boxes r.runs p positive) ∙ j)
        where
          left_false : (a b : Bool) → (a || b) ≡ false → a ≡ false
          left_false true b e = e
          left_false false b e = refl

      through_too : (r : BlockLayout) → IsBlockLayout boxes r → (c : ℕ) → 0 < c → c ≤ p → IsAround boxes c m → flag_at r.runs.through c ≡ true → flag_at r.runs.through p ≡ true
      through_too r has c there above inside t = elim (cases_eq c p) [
        | inl e ↦ ap (flag_at r.runs.through) (sym e) ∙ t
        | inr ne ↦ (through_inside boxes tree r.runs has.has_runs c p there (omega (arith, ne, above)) inner (λ i a b. inside i a (let q = lt in omega (arith, b, q))) t).through
      ]

      also_through_too : (c : ℕ) → 0 < c → c ≤ p → IsAround boxes c m → flag_at z.runs.through c ≡ true → flag_at z.runs.through p ≡ true
      also_through_too c there above inside t = elim (cases_eq c p) [
        | inl e ↦ ap (flag_at z.runs.through) (sym e) ∙ t
        | inr ne ↦ (through_inside boxes tree z.runs also.has_runs c p there (omega (arith, ne, above)) inner (λ i a b. inside i a (let q = lt in omega (arith, b, q))) t).through
      ]

  pub record SomeClosed : Type 0 where
    pub next : ℕ
    pub alike : AlikeAt boxes tree y is z also next (parent_at boxes p) m

  closed_parted : joins_bottom boxes y.runs p ≡ false → (MarksTo boxes tree y is z also m → length_at y.extents.depths p ≡ length_at z.extents.depths p) → SomeClosed
  closed_parted parted extent =
      let marks = marks_same boxes tree y is z also first p m at was (run_before boxes y.runs p m) (ended_here parted) in
      let start = start_same boxes tree y is z also first p m at was (run_before boxes y.runs p m) (ended_here parted) in
      let stands : flag_at y.runs.through p ≡ false = (let j = joins_is boxes y.runs p positive in grind (arith, j, parted)) in
      record { next = m; alike = closed_standing stands start (marks p lt) (extent marks) m (close_parted boxes tree y.runs is.has_runs p m positive lt within ends was.gathered.inside parted) marks }

  -- its bottom margin adjoins that of its last child, and its top margin is in an earlier run
  closed_joined : joins_bottom boxes y.runs p ≡ true → p < first → (may_join_bottoms (block_at boxes p) ≡ true → length_at y.extents.depths p ≡ length_at z.extents.depths p) → SomeClosed
  closed_joined joined before extent =
      let stands : flag_at y.runs.through p ≡ false = passes_here boxes tree y.runs is.has_runs p m positive lt within ends was.gathered.inside first was.gathered
      ∙ (let n = low_yes p first before in rw n (and_false (may_collapse_through (block_at boxes p)))) in
      let may : may_join_bottoms (block_at boxes p) ≡ true = (let j = sym (joins_is boxes y.runs p positive) ∙ joined in
      right_of (flag_at y.runs.through p) (may_join_bottoms (block_at boxes p)) (not (is_barred boxes p (run_before boxes y.runs p (length boxes)))) stands j) in
      let start : start_before boxes y p m ≡ start_before boxes z p m = elim was.start [
        | inl e ↦ e
        | inr h ↦ (let u = h.above in absurd (omega (arith, u, before)))
      ] in
      record { next = first; alike = closed_standing stands start (was.mark p before) (extent may) first (close_joined boxes tree y.runs is.has_runs p m positive lt within ends was.gathered.inside first was.gathered joined) was.mark }
    where
      and_false : (b : Bool) → (b && false) ≡ false
      and_false true = refl
      and_false false = refl

      right_of : (a b c : Bool) → a ≡ false → (a || (b && c)) ≡ true → b ≡ true
      right_of a b c f e = grind (arith, f, e)

  -- it is collapsed through
  module _ (joined : joins_bottom boxes y.runs p ≡ true) (from : first ≤ p) where
    through : flag_at y.runs.through p ≡ true
    through = joined_through boxes tree y.runs is.has_runs p m positive lt within ends was.gathered.inside first was.gathered joined from

    also_through : flag_at z.runs.through p ≡ true
    also_through = sym closed_runs.pass ∙ through

    starts_y : length_at y.places.starts p ≡ start_before boxes y p m
    starts_y = one_start boxes tree y is first p m at was.gathered p p from (omega arith) was.gathered.inside (omega arith) lt

    starts_z : length_at z.places.starts p ≡ start_before boxes z p m
    starts_z = one_start boxes tree z also first p m at gathered_z p p from (omega arith) was.gathered.inside (omega arith) lt

    no_height : length_at y.places.heights p ≡ length_at z.places.heights p
    no_height = let t = through in let u = also_through in
        let a : length_at y.places.heights p ≡ pos 0 = is.has_positions.height p inner ∙ rw t refl in
        let b : length_at z.places.heights p ≡ pos 0 = also.has_positions.height p inner ∙ rw u refl in
        a ∙ sym b

    -- it has clearance
    is_first : IsHanging boxes y first (margin_place p m) → parent_at boxes p < first → first ≡ p
    is_first h low = elim (cases_eq first p) [
      | inl e ↦ e
      | inr ne ↦ (let i = h.contains p (omega (arith, from, ne)) lt in absurd (omega (arith, i, low)))
    ]

    starts_cleared : IsHanging boxes y first (margin_place p m) → first ≡ p → length_at y.places.starts p ≡ length_at z.places.starts p
    starts_cleared h e =
        let clears = ap (flag_at y.runs.clears) (sym e) ∙ h.clears in
        let edge = was.edges p lt clears in
        let r = run_end in
        start_clears_through boxes y is p positive inner clears through
        ∙ (λ i. edge i -ℤ collapse (margins (r i)))
        ∙ sym (start_clears_through boxes z also p positive inner (sym (was.clears p lt) ∙ clears) also_through)

    mark_kept : has_top (parent_at boxes p) (run_at y.runs.before_tops p) ≡ false → MarkSame
    mark_kept top =
        let lead = (same_runs boxes tree y is z also first p m at was).lead p lt in
        let also_top = ap (has_top (parent_at boxes p)) (sym lead) ∙ top in
        let low : parent_at boxes p < first = elim (cases_lt (parent_at boxes p) first) [
          | inl less ↦ less
          | inr over ↦ absurd (true_false (has_top (parent_at boxes p) (run_at y.runs.before_tops p)) (was.gathered.leads (parent_at boxes p) p from lt up ∙ low_not (parent_at boxes p) first over) top)
        ] in
        elim was.start [
          | inl e ↦ (let r = run_end in
              mark_through boxes y is p positive inner through top
              ∙ (λ i. starts_y i +ℤ collapse (margins (r i))) ∙ (λ i. e i +ℤ collapse (margins (run_before boxes z.runs p (length boxes)))) ∙ (λ i. sym starts_z i +ℤ collapse (margins (run_before boxes z.runs p (length boxes))))
              ∙ sym (mark_through boxes z also p positive inner also_through also_top))
          | inr h ↦ (let e = is_first h low in let clears = ap (flag_at y.runs.clears) (sym e) ∙ h.clears in
              stands_at_edge boxes tree y is p positive inner clears ∙ was.edges p lt clears
              ∙ sym (stands_at_edge boxes tree z also p positive inner (sym (was.clears p lt) ∙ clears)))
        ]

    start_up : StartsAlike boxes tree y is z also first (parent_at boxes p) m
    start_up = elim was.start [
      | inl e ↦ inl (start_through y through ∙ starts_y ∙ e ∙ sym starts_z ∙ sym (start_through z also_through))
      | inr h ↦ elim (cases_eq first p) [
        | inl e ↦ inl (start_through y through ∙ starts_cleared h e ∙ sym (start_through z also_through))
        | inr ne ↦ inr (record { clears = h.clears; above = h.contains p (omega (arith, from, ne)) lt; contains = h.contains })
      ]
    ]

    closed_through : SomeClosed
    closed_through = record {
      next = first;
      alike = closed_up first (close_joined boxes tree y.runs is.has_runs p m positive lt within ends was.gathered.inside first was.gathered joined) was.mark (record { height = no_height; kept = λ t top. mark_kept top }) start_up;
    }

  pub closes_alike : (MarksTo boxes tree y is z also m → length_at y.extents.depths p ≡ length_at z.extents.depths p) → (may_join_bottoms (block_at boxes p) ≡ true → length_at y.extents.depths p ≡ length_at z.extents.depths p) → SomeClosed
  closes_alike by_marks by_kind = true_or (joins_bottom boxes y.runs p) SomeClosed
      (λ joined. elim (cases_lt p first) [
        | inl before ↦ closed_joined joined before by_kind
        | inr from ↦ closed_through joined from
      ])
      (λ parted. closed_parted parted by_marks)
