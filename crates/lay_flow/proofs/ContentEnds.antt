-- Where the content of a box ends that is closed, and how high the box is.
use Rattle.std.proofs.Common.{◌≡◌, ℕ, ◌<◌, ◌≤◌, Bool, true, false, ℤ, pos, ◌+ℤ◌, ◌-ℤ◌, List, [], length, refl, sym, ap, ◌∙◌, arith, inl, inr, Option, Some, None}
use Rattle.std.proofs.lemmas.Bool.{cases_lt}
use Rattle.std.proofs.lemmas.Int.{ints}
use Rattle.lay_flow.specs.declared.blocks.flow_box.FlowBox.{FlowBox}
use Rattle.lay_flow.specs.Blocks.Boxes.{parent_at, parents_of}
use Rattle.lay_margins.specs.Collapse.{collapse}
use Rattle.lay_doc.specs.Tree.{IsTree}
use Rattle.lay_flow.specs.Blocks.Lengths.{length_at}
use Rattle.lay_flow.specs.Blocks.Children.{last_child, flag_at}
use Rattle.lay_flow.specs.Blocks.MarginRuns.{Entry, margins, has_top, block_at, run_at, parts_tops, to_top, run_before, joins_bottom}
use Rattle.lay_flow.specs.Blocks.BlockLayout.{BlockLayout}
use Rattle.lay_flow.specs.Blocks.BlockPositions.{IsBlockLayout, content_height, border_height, start_below, start_before}
use Rattle.lay_flow.specs.Pass.State.{PassState, IsAt}
use Rattle.lay_flow.proofs.BlocksLemmas.BlockKinds.{no_edge}
use Rattle.lay_flow.proofs.Closings.{place_below, out_parted}
use Rattle.lay_flow.proofs.BlocksLemmas.ContentHeights.{content_bottom, content_inner, margin_end}
use Rattle.lay_flow.proofs.BlocksLemmas.GatheredRuns.{last_over}
use Rattle.lay_flow.proofs.BlocksLemmas.LayoutFacts.{start_first, start_next}
use Rattle.lay_flow.proofs.BlocksLemmas.RunEntries.{top_here}
use Rattle.lay_flow.proofs.BlocksLemmas.RunFacts.{first_comes, next_comes}
use Rattle.lay_flow.proofs.RunReach.{mark_here}
use Rattle.lay_flow.proofs.BlocksLemmas.Truths.{true_false}
use Rattle.lay_flow.specs.Blocks.MarginPlace.{margin_place}

module _ (boxes : List FlowBox) (y : BlockLayout) (is : IsBlockLayout boxes y) (tree : IsTree (parents_of boxes))
    (now : PassState) (p m : ℕ) (positive : 0 < p) (was : IsAt boxes y now (margin_place p m)) (ends : m < length boxes → parent_at boxes m < p) where
  within_p : p < length boxes
  within_p = let a = was.in_run.gathered.parent in let b = was.in_run.gathered.within in omega (arith, a, b)

  last_here : last_child boxes p (length boxes) ≡ last_child boxes p m
  last_here = last_over boxes tree y.runs is.has_runs p m positive was.in_run.gathered.parent was.in_run.gathered.within ends was.in_run.gathered.inside

  end_leaf : last_child boxes p m ≡ None → margin_end boxes y p ≡ length_at y.places.marks p +ℤ (block_at boxes p).edge_top.0
  end_leaf e = let f = last_here ∙ e in rw f refl

  -- without children its top margin is in the run, unless an edge parts it from that
  top_there : last_child boxes p m ≡ None → parts_tops boxes p ≡ false → now.first ≤ p
  top_there e wall = elim (cases_lt p now.first) [
    | inl low ↦ (let come : run_before boxes y.runs p m ≡ to_top boxes y.runs p = first_comes boxes y.runs p m e ∙ rw wall refl in
        absurd (true_false (has_top p (run_before boxes y.runs p m)) (ap (has_top p) come ∙ top_here p (block_at boxes p).margin_top.0 (run_at y.runs.before_tops p)) (was.in_run.gathered.older p low)))
    | inr high ↦ high
  ]

  -- its bottom margin adjoins that of its last child
  pub bottom_joined : joins_bottom boxes y.runs p ≡ true → p < now.first → margin_end boxes y p ≡ start_before boxes y p m
  bottom_joined joined before = go (last_child boxes p m) refl
    where
      by_wall : (b : Bool) → parts_tops boxes p ≡ b → last_child boxes p m ≡ None → margin_end boxes y p ≡ start_before boxes y p m
      by_wall true wall e = end_leaf e ∙ sym (start_first boxes y p m e ∙ rw wall refl)
      by_wall false wall e = let t = top_there e wall in absurd (omega (arith, t, before))

      go : (o : Option ℕ) → last_child boxes p m ≡ o → margin_end boxes y p ≡ start_before boxes y p m
      go None e = by_wall (parts_tops boxes p) refl e
      go (Some c) e = (let f = last_here ∙ e in let s = start_next boxes y p m c e in rw (f, joined) (sym s))

  -- its bottom margin begins a run
  pub bottom_parted : joins_bottom boxes y.runs p ≡ false → flag_at y.runs.through p ≡ false
      → margin_end boxes y p ≡ start_before boxes y p m +ℤ collapse (margins (run_before boxes y.runs p m))
  bottom_parted parted stands = go (last_child boxes p m) refl
    where
      two : (a b : ℤ) (xs zs : List Entry) → a ≡ b → xs ≡ zs → (a +ℤ collapse (margins xs)) ≡ (b +ℤ collapse (margins zs))
      two a b xs zs e f = rw (e, f) refl

      plus_none : (v : ℤ) → v ≡ v +ℤ collapse []
      plus_none v = omega (arith, ints)

      plus_zero : (v e : ℤ) → e ≡ pos 0 → v +ℤ e ≡ v
      plus_zero v e z = omega (arith, ints, z)

      by_wall : (b : Bool) → parts_tops boxes p ≡ b → last_child boxes p m ≡ None
          → margin_end boxes y p ≡ start_before boxes y p m +ℤ collapse (margins (run_before boxes y.runs p m))
      by_wall true wall e =
          let start : start_before boxes y p m ≡ length_at y.places.marks p +ℤ (block_at boxes p).edge_top.0 = start_first boxes y p m e ∙ rw wall refl in
          let run : run_before boxes y.runs p m ≡ [] = first_comes boxes y.runs p m e ∙ rw wall refl in
          end_leaf e ∙ sym start ∙ plus_none (start_before boxes y p m) ∙ sym (ap (λ (run : List Entry). start_before boxes y p m +ℤ collapse (margins run)) run)
      by_wall false wall e =
          let high = top_there e wall in
          end_leaf e ∙ plus_zero (length_at y.places.marks p) (block_at boxes p).edge_top.0 (no_edge boxes p wall)
          ∙ mark_here boxes y is tree now p m was.in_run (place_below boxes y is tree now p m positive was ends) p high (omega arith) was.in_run.gathered.inside stands
          ∙ ap (λ (run : List Entry). start_before boxes y p m +ℤ collapse (margins run)) (out_parted boxes y is tree now p m positive was ends parted)

      go : (o : Option ℕ) → last_child boxes p m ≡ o → margin_end boxes y p ≡ start_before boxes y p m +ℤ collapse (margins (run_before boxes y.runs p m))
      go None e = by_wall (parts_tops boxes p) refl e
      go (Some c) e = here (last_here ∙ e) ∙ two (start_below y c) (start_before boxes y p m) (run_at y.runs.to_bottoms c) (run_before boxes y.runs p m)
          (sym (start_next boxes y p m c e)) (sym (next_comes boxes y.runs p m c e))
        where
          here : last_child boxes p (length boxes) ≡ Some c → margin_end boxes y p ≡ start_below y c +ℤ collapse (margins (run_at y.runs.to_bottoms c))
          here f = rw (f, parted) refl

  pub height_there : (h mark bottom : ℤ) → flag_at y.runs.through p ≡ false → mark ≡ length_at y.places.marks p → bottom ≡ content_bottom boxes y p
      → h ≡ border_height (block_at boxes p) (length_at y.extents.depths p) (bottom -ℤ (mark +ℤ (block_at boxes p).edge_top.0)) → h ≡ length_at y.places.heights p
  height_there h mark bottom stands marked ended here =
      let there : length_at y.places.heights p ≡ border_height (block_at boxes p) (length_at y.extents.depths p) (content_height boxes y p) = is.has_positions.height p within_p ∙ rw stands refl in
      let content = content_inner boxes y p positive in
      here ∙ (λ i. border_height (block_at boxes p) (length_at y.extents.depths p) (ended i -ℤ (marked i +ℤ (block_at boxes p).edge_top.0)))
      ∙ ap (λ (v : ℤ). border_height (block_at boxes p) (length_at y.extents.depths p) v) (sym content) ∙ sym there
