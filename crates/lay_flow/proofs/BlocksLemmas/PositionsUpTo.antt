-- Positions up to a place don't depend on the extents of boxes from there on, nor on clear edges of boxes after it.
use Rattle.std.proofs.Common.{◌≡◌, ◌⊎◌, ℕ, zero, suc, ◌+◌, ◌<◌, ◌≤◌, Bool, true, false, ◌+ℤ◌, ◌-ℤ◌, List, length, refl, sym, ◌∙◌, arith, inl, inr, Option, Some, None, subst}
use Rattle.std.proofs.lemmas.Bool.{cases_lt, cases_eq}
use Rattle.lay_flow.specs.declared.blocks.flow_box.FlowBox.{FlowBox}
use Rattle.lay_flow.specs.Blocks.Boxes.{parent_at, parents_of}
use Rattle.lay_flow.proofs.BlocksLemmas.BoxTrees.{parent_before}
use Rattle.lay_doc.specs.Tree.{IsTree}
use Rattle.lay_flow.specs.Blocks.Lengths.{length_at}
use Rattle.lay_flow.specs.Blocks.Children.{last_child, flag_at}
use Rattle.lay_flow.specs.Blocks.MarginRuns.{block_at}
use Rattle.lay_flow.specs.Blocks.BlockLayout.{BlockLayout}
use Rattle.lay_flow.specs.Blocks.BlockPositions.{HasPositions, start_below, start_before, start_of, mark_of, content_height, height_of}
use Rattle.lay_flow.proofs.BlocksLemmas.ContentHeights.{content_bottom, content_inner}
use Rattle.lay_flow.proofs.BlocksLemmas.ChildPlaces.{last_same}
use Rattle.lay_flow.proofs.BlocksLemmas.MarginWalk.{opens}
use Rattle.lay_flow.proofs.BlocksLemmas.RunsAgree.{last_there, none_left}
use Rattle.lay_flow.proofs.BlocksLemmas.PositionsAgree.{SamePositions}
use Rattle.lay_flow.specs.Blocks.MarginPlace.{margin_place, IsAround}

module _ (boxes : List FlowBox) (tree : IsTree (parents_of boxes)) (y w : BlockLayout)
    (is : HasPositions boxes y) (also : HasPositions boxes (record w { runs = y.runs }))
    (limit : ℕ) (same : (j : ℕ) → 0 < j → j < limit → length_at y.extents.depths j ≡ length_at w.extents.depths j) (edges : (j : ℕ) → j ≤ limit → flag_at y.runs.clears j ≡ true → length_at y.clear_edges j ≡ length_at w.clear_edges j) where
  -- the other layout, with the same runs
  abbrev z : BlockLayout
  z = record w { runs = y.runs }

  abbrev UpTo : ℕ → ℕ → Type 0
  UpTo p m = (m ≤ limit ⊎ ((p ≡ limit) × (m ≡ limit + 1))) → SamePositions boxes y.places w.places (margin_place p m)

  below_same : (c : ℕ) → length_at y.places.starts c ≡ length_at w.places.starts c → length_at y.places.marks c ≡ length_at w.places.marks c → length_at y.places.heights c ≡ length_at w.places.heights c → start_below y c ≡ start_below z c
  below_same c e f g = rw (e, f, g) refl

  before_same : (p m : ℕ) → p < m → SamePositions boxes y.places w.places (margin_place p m) → start_before boxes y p m ≡ start_before boxes z p m
  before_same p m lt was = go (last_child boxes p m) refl
    where
      go : (o : Option ℕ) → last_child boxes p m ≡ o → start_before boxes y p m ≡ start_before boxes z p m
      go None e = let f = was.mark p lt in let g = was.start p lt in rw (e, f, g) refl
      go (Some c) e = let l = last_there boxes p m c e in rw e (below_same c (was.start c l.1) (was.mark c l.1) (was.closed c l.0 l.1))

  start_same : (k : ℕ) → 0 < k → k ≤ limit → start_before boxes y (parent_at boxes k) k ≡ start_before boxes z (parent_at boxes k) k → start_of boxes y k ≡ start_of boxes z k
  start_same zero positive le e = absurd (omega (arith, positive))
  start_same (suc k) positive le e = go (flag_at y.runs.clears (suc k)) refl
    where
      go : (b : Bool) → flag_at y.runs.clears (suc k) ≡ b → start_of boxes y (suc k) ≡ start_of boxes z (suc k)
      go true cleared = let d = edges (suc k) le cleared in rw (cleared, d) refl
      go false unclear = rw (unclear, e) refl

  mark_same : (k : ℕ) → 0 < k → length_at y.places.starts k ≡ length_at w.places.starts k → length_at y.places.marks (parent_at boxes k) ≡ length_at w.places.marks (parent_at boxes k) → mark_of boxes y k ≡ mark_of boxes z k
  mark_same zero positive e f = absurd (omega (arith, positive))
  mark_same (suc k) positive e f = rw (e, f) refl

  open_agrees : (k : ℕ) → 0 < k → k < length boxes → UpTo (parent_at boxes k) k → UpTo k (k + 1)
  open_agrees k positive within before cond = record {
    start = λ j high. elim (cases_lt j k) [
      | inl lt ↦ was.start j lt
      | inr ge ↦ (let e : j ≡ k = omega (arith, high, ge) in subst (λ (j : ℕ). length_at y.places.starts j ≡ length_at w.places.starts j) (sym e) start)
    ];
    mark = λ j high. elim (cases_lt j k) [
      | inl lt ↦ was.mark j lt
      | inr ge ↦ (let e : j ≡ k = omega (arith, high, ge) in subst (λ (j : ℕ). length_at y.places.marks j ≡ length_at w.places.marks j) (sym e) mark)
    ];
    closed = λ j low high. absurd (omega (arith, low, high));
    gone = λ j i low high lower. elim (cases_lt i k) [
      | inl lt ↦ was.gone j i low lt lower
      | inr ge ↦ (let e : i ≡ k = omega (arith, high, ge) in was.closed j (rw e at lower) (omega (arith, low, e)))
    ];
  }
    where
      low_enough : (k + 1 ≤ limit ⊎ ((k ≡ limit) × (k + 1 ≡ limit + 1))) → k ≤ limit
      low_enough (inl le) = omega (arith, le)
      low_enough (inr e) = let f = e.0 in omega (arith, f)

      less : parent_at boxes k < k
      less = parent_before boxes tree k positive within

      was : SamePositions boxes y.places w.places (margin_place (parent_at boxes k) k)
      was = before (inl (low_enough cond))

      start : length_at y.places.starts k ≡ length_at w.places.starts k
      start = let w = was in is.start k within ∙ start_same k positive (low_enough cond) (before_same (parent_at boxes k) k less w) ∙ sym (also.start k within)

      mark : length_at y.places.marks k ≡ length_at w.places.marks k
      mark = let w = was in is.mark k within ∙ mark_same k positive start (w.mark (parent_at boxes k) less) ∙ sym (also.mark k within)

  content_same : (p m : ℕ) → 0 < p → length_at y.extents.depths p ≡ length_at w.extents.depths p → last_child boxes p (length boxes) ≡ last_child boxes p m → p < m → SamePositions boxes y.places w.places (margin_place p m)
      → content_height boxes y p ≡ content_height boxes z p
  content_same p m positive depth last lt was = content_inner boxes y p positive ∙ between ∙ sym (content_inner boxes z p positive)
    where
      go : (o : Option ℕ) → last_child boxes p m ≡ o → content_bottom boxes y p ≡ content_bottom boxes z p
      go None e = let g = last ∙ e in let f = was.mark p lt in rw (g, f, depth) refl
      go (Some c) e = let g = last ∙ e in let l = last_there boxes p m c e in let u = below_same c (was.start c l.1) (was.mark c l.1) (was.closed c l.0 l.1) in let f = was.mark p lt in rw (g, u, f, depth) refl

      between : content_bottom boxes y p -ℤ (length_at y.places.marks p +ℤ (block_at boxes p).edge_top.0) ≡ content_bottom boxes z p -ℤ (length_at w.places.marks p +ℤ (block_at boxes p).edge_top.0)
      between = let e = go (last_child boxes p m) refl in let f = was.mark p lt in rw (e, f) refl

  height_same : (p : ℕ) → length_at y.extents.depths p ≡ length_at w.extents.depths p → content_height boxes y p ≡ content_height boxes z p → height_of boxes y p ≡ height_of boxes z p
  height_same p e f = rw (e, f) refl

  close_agrees : (p m : ℕ) → 0 < p → p < m → m ≤ length boxes → (m < length boxes → parent_at boxes m < p) → IsAround boxes p m → UpTo p m → UpTo (parent_at boxes p) m
  close_agrees p m positive lt within ends inside before cond = record {
    start = was.start;
    mark = was.mark;
    closed = λ j low high. elim (cases_lt j p) [
      | inl earlier ↦ was.gone j p earlier lt low
      | inr from ↦ elim (cases_eq j p) [
        | inl e ↦ subst (λ (j : ℕ). length_at y.places.heights j ≡ length_at w.places.heights j) (sym e) mine
        | inr ne ↦ was.closed j (omega (arith, from, ne)) high
      ]
    ];
    gone = was.gone;
  }
    where
      inner : p < length boxes
      inner = omega (arith, lt, within)

      up : parent_at boxes p < p
      up = parent_before boxes tree p positive inner

      low_enough : (m ≤ limit ⊎ ((parent_at boxes p ≡ limit) × (m ≡ limit + 1))) → m ≤ limit
      low_enough (inl le) = le
      low_enough (inr e) = let f = e.0 in let g = e.1 in let u = up in absurd (omega (arith, f, g, u, lt))

      was : SamePositions boxes y.places w.places (margin_place p m)
      was = before (inl (low_enough cond))

      mine : length_at y.places.heights p ≡ length_at w.places.heights p
      mine =
          let w = was in
          let le = low_enough cond in
          let last = last_same boxes p m (length boxes) within (none_left boxes tree p m lt ends) in
          is.height p inner ∙ height_same p (same p positive (omega (arith, lt, le))) (content_same p m positive (same p positive (omega (arith, lt, le))) last lt w) ∙ sym (also.height p inner)

  -- the marks of the boxes up to the limit
  pub marks_up_to : 0 < length boxes → limit < length boxes → (j : ℕ) → j ≤ limit → length_at y.places.marks j ≡ length_at w.places.marks j
  marks_up_to some within j le =
      (opens boxes tree UpTo close_agrees open_agrees limit begins within (inr (refl, refl))).mark j (omega (arith, le))
    where
      begins : UpTo 0 1
      begins cond = record {
        start = λ j high. let e : j ≡ 0 = omega (arith, high) in subst (λ (j : ℕ). length_at y.places.starts j ≡ length_at w.places.starts j) (sym e) (is.start 0 some ∙ sym (also.start 0 some));
        mark = λ j high. let e : j ≡ 0 = omega (arith, high) in subst (λ (j : ℕ). length_at y.places.marks j ≡ length_at w.places.marks j) (sym e) (is.mark 0 some ∙ sym (also.mark 0 some));
        closed = λ j low high. absurd (omega (arith, low, high));
        gone = λ j i low high lower. absurd (omega (arith, low, high));
      }
