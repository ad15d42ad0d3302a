-- Two layouts whose boxes before a place have the same clearances are alike up to it, if what is in the boxes reaches equally deep
-- where these stand alike.
use Rattle.std.proofs.Common.{◌≡◌, ℕ, ◌+◌, ◌<◌, ◌≤◌, true, false, ℤ, ◌+ℤ◌, List, length, sym, ap, ◌∙◌, arith, inl, subst}
use Rattle.lay_flow.specs.declared.blocks.flow_box.FlowBox.{FlowBox}
use Rattle.lay_flow.specs.Blocks.Boxes.{parent_at, parents_of}
use Rattle.lay_doc.specs.Tree.{IsTree}
use Rattle.lay_flow.specs.Blocks.Lengths.{length_at}
use Rattle.lay_flow.specs.Blocks.Children.{flag_at}
use Rattle.lay_flow.specs.Blocks.MarginRuns.{block_at}
use Rattle.lay_flow.specs.Blocks.BlockLayout.{BlockLayout}
use Rattle.lay_flow.specs.Blocks.BlockPositions.{IsBlockLayout, is_placed}
use Rattle.lay_flow.specs.Blocks.MarginPlace.{IsAround, IsPlace}
use Rattle.lay_flow.proofs.BlocksLemmas.Truths.{true_or}
use Rattle.lay_flow.proofs.BlocksLemmas.BlockKinds.{joins_flow}
use Rattle.lay_flow.proofs.BlocksLemmas.GatheredRuns.{begins}
use Rattle.lay_flow.proofs.BlocksLemmas.MarginWalk.{walk_to}
use Rattle.lay_flow.proofs.BlocksLemmas.AlikeSteps.{AlikeAt, opens_alike}
use Rattle.lay_flow.proofs.BlocksLemmas.AlikeClosings.{closes_alike}

-- what is in the box at p reaches equally deep
abbrev pub SameDepth : BlockLayout → BlockLayout → ℕ → Type 0
SameDepth y z p = length_at y.extents.depths p ≡ length_at z.extents.depths p

-- what is placed in a box reaches equally deep, where the boxes up to it have the same marks, and so does what isn't placed
pub record SameDepths (boxes : List FlowBox) (y z : BlockLayout) : Type 0 where
  pub placed : (p : ℕ) → p < length boxes → is_placed (block_at boxes p).inside ≡ true
      → ((j : ℕ) → j < p + 1 → length_at y.places.marks j ≡ length_at z.places.marks j) → SameDepth y z p
  pub other : (p : ℕ) → p < length boxes → is_placed (block_at boxes p).inside ≡ false → SameDepth y z p

-- the boxes before n have the same clearances
pub record SameClearances (y z : BlockLayout) (n : ℕ) : Type 0 where
  pub clears : (j : ℕ) → j < n → flag_at y.runs.clears j ≡ flag_at z.runs.clears j
  pub edges : (j : ℕ) → j < n → flag_at y.runs.clears j ≡ true → length_at y.clear_edges j ≡ length_at z.clear_edges j

module _ (boxes : List FlowBox) (tree : IsTree (parents_of boxes)) (some : 0 < length boxes) (y : BlockLayout) (is : IsBlockLayout boxes y)
    (z : BlockLayout) (also : IsBlockLayout boxes z) (n : ℕ) (same : SameClearances y z n) (depths : SameDepths boxes y z) where
  pub record AreAlike (p m : ℕ) : Type 0 where
    pub first : ℕ
    pub alike : AlikeAt boxes tree y is z also first p m

  abbrev UpTo : ℕ → ℕ → Type 0
  UpTo p m = m ≤ n → AreAlike p m

  opened : (j : ℕ) → 0 < j → j < length boxes → UpTo (parent_at boxes j) j → UpTo j (j + 1)
  opened j low inner before le =
      let was = before (omega (arith, le)) in
      let next = opens_alike boxes tree y is z also was.first j low inner was.alike (same.clears j (omega (arith, le))) (same.edges j (omega (arith, le))) in
      record { first = next.next; alike = next.alike }

  closed : (p m : ℕ) → 0 < p → p < m → m ≤ length boxes → (m < length boxes → parent_at boxes m < p) → IsAround boxes p m → UpTo p m → UpTo (parent_at boxes p) m
  closed p m low lt inner ends around before le =
      let was = before le in
      let here : p < length boxes = omega (arith, lt, inner) in
      let next = closes_alike boxes tree y is z also was.first p m low was.alike ends
      (λ marks. true_or (is_placed (block_at boxes p).inside) (SameDepth y z p)
      (λ placed. depths.placed p here placed (λ j less. marks j (omega (arith, less, lt))))
      (λ flows. depths.other p here flows))
      (λ may. depths.other p here (joins_flow (block_at boxes p) may)) in
      record { first = next.next; alike = next.alike }

  begun : UpTo 0 1
  begun le = record {
    first = 1;
    alike = record {
      gathered = begins boxes tree y.runs is.has_runs some;
      clears = λ j lt. same.clears j (omega (arith, lt, le));
      edges = λ j lt c. same.edges j (omega (arith, lt, le)) c;
      mark = λ j lt. let e : j ≡ 0 = omega (arith, lt) in subst (λ (j : ℕ). length_at y.places.marks j ≡ length_at z.places.marks j) (sym e) mark_root;
      closed = λ j low high. absurd (omega (arith, low, high));
      gone = λ j i low high lower. absurd (omega (arith, low, high));
      start = inl (ap (λ (v : ℤ). v +ℤ (block_at boxes 0).edge_top.0) mark_root);
    };
  }
    where
      mark_root : length_at y.places.marks 0 ≡ length_at z.places.marks 0
      mark_root = is.has_positions.mark 0 some ∙ sym (also.has_positions.mark 0 some)

  pub alike_to : (p m : ℕ) → IsPlace boxes p m → m ≤ n → AreAlike p m
  alike_to p m at = walk_to boxes tree UpTo closed opened begun p m at
