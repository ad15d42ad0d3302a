-- A column of used sizes that grows, from outer to inner boxes.
use Rattle.std.proofs.Common.{◌≡◌, ℕ, ◌+◌, ◌<◌, ◌≤◌, true, false, List, [], ◌∷◌, ◌++◌, length, length-append, refl, sym, ◌∙◌, arith, inl, inr}
use Rattle.std.proofs.lemmas.Bool.{cases_lt}
use Rattle.std.proofs.lemmas.Int.{ints}
use Rattle.std.proofs.lemmas.Grind.{elements}
use Rattle.lay_context_sizes.proofs.Cited.{container_before, read_before, read_last}
use Rattle.lay_units.specs.Units.{IsPosition}
use Rattle.lay_box_tree.specs.declared.box_tree.BoxNode.{BoxNode}
use Rattle.lay_sizes.specs.declared.sizing.BoxSizes.{BoxSizes}
use Rattle.lay_sizes.specs.BoxSizes.{content_block}
use Rattle.lay_sizes.specs.SizeBounds.{SizeFits}
use Rattle.lay_sizes.specs.SizeColumns.{HaveSizeBounds, no_sizes, sizes_at}
use Rattle.lay_box_tree.specs.Containing.{container_of}
use Rattle.lay_box_tree.specs.ContextBoxes.{AreContextBoxes, is_inner}
use Rattle.lay_placements.specs.ContainingBlocks.{block_around, height_holder}
use Rattle.lay_context_sizes.specs.FlowSizes.{HaveInsideSizes, IsBoxSized}
use Rattle.lay_context_sizes.proofs.HolderSteps.{holder_before}

-- the boxes before n have their sizes, and the own one has these
pub record SizesTo (own : BoxSizes) (boxes : List BoxNode) (sizes : List BoxSizes) (n : ℕ) : Type 0 where
  pub some : 0 < n
  pub count : length sizes ≡ n
  pub first : sizes_at sizes 0 ≡ own
  pub each : (k : ℕ) → 0 < k → k < n → is_inner boxes k ≡ false → IsBoxSized boxes sizes k (sizes_at sizes k)
  pub inner : (k : ℕ) → 0 < k → k < n → is_inner boxes k ≡ true → sizes_at sizes k ≡ no_sizes
  pub bounds : HaveSizeBounds sizes

pub around_before : (boxes : List BoxNode) → AreContextBoxes boxes → (sizes : List BoxSizes) (z : BoxSizes) (k : ℕ) → 0 < k → k < length boxes → k ≤ length sizes
    → block_around boxes (sizes ++ z ∷ []) k ≡ block_around boxes sizes k
around_before boxes are sizes z k inside within known =
    let c : ℕ = container_of boxes k in
    let before = container_before boxes k are inside within in
    let holder = holder_before boxes c are (omega arith) in
    let one = read_before sizes z c (omega arith) in
    let other = read_before sizes z (height_holder boxes c) (omega arith) in
    rw (one, other) refl

-- the own box alone
pub first_one : (boxes : List BoxNode) (own : BoxSizes) → SizeFits own → SizesTo own boxes (own ∷ []) 1
first_one boxes own fits = record {
  some = omega arith;
  count = refl;
  first = refl;
  each = λ k inside lt. absurd (omega arith);
  inner = λ k inside lt. absurd (omega arith);
  bounds = λ k lt. (let q : k ≡ 0 = omega (arith, lt) in rw q fits);
}

pub one_more : (own : BoxSizes) (boxes : List BoxNode) (sizes : List BoxSizes) (n : ℕ) (z : BoxSizes) → AreContextBoxes boxes → n < length boxes
    → SizesTo own boxes sizes n → (is_inner boxes n ≡ false → IsBoxSized boxes sizes n z) → (is_inner boxes n ≡ true → z ≡ no_sizes) → SizeFits z
    → SizesTo own boxes (sizes ++ z ∷ []) (n + 1)
one_more own boxes sizes n z are within so_far each inner fits = record {
  some = omega arith;
  count = grind (arith, elements, so_far.count);
  first = read_before sizes z 0 (omega (arith, so_far.some, so_far.count)) ∙ so_far.first;
  each = λ k inside lt own. elim (cases_lt k n) [
    | inl low ↦ (let e = around_before boxes are sizes z k inside (omega arith) (omega (arith, so_far.count)) in
        let r = read_before sizes z k (omega (arith, so_far.count)) in
        rw (e, r) (so_far.each k inside low own))
    | inr high ↦ (let q : k ≡ n = omega arith in
        let e = around_before boxes are sizes z n so_far.some within (omega (arith, so_far.count)) in
        let r = read_last sizes z n (sym so_far.count) in
        rw (q, e, r) (each (rw q at own)))
  ];
  inner = λ k inside lt is. elim (cases_lt k n) [
    | inl low ↦ read_before sizes z k (omega (arith, so_far.count)) ∙ so_far.inner k inside low is
    | inr high ↦ (let q : k ≡ n = omega arith in read_last sizes z k (q ∙ sym so_far.count) ∙ inner (rw q at is))
  ];
  bounds = λ k lt. elim (cases_lt k n) [
    | inl low ↦ (let r = read_before sizes z k (omega (arith, so_far.count)) in rw r (so_far.bounds k (omega (arith, so_far.count))))
    | inr high ↦ (let counted = length-append sizes (z ∷ []) in
        let q : k ≡ length sizes = omega (arith, counted, so_far.count) in let r = read_last sizes z k q in rw r fits)
  ];
}

pub all_sizes : (own : BoxSizes) (boxes : List BoxNode) (sizes : List BoxSizes) (n : ℕ) → n ≡ length boxes → SizesTo own boxes sizes n → HaveInsideSizes boxes sizes
all_sizes own boxes sizes n e so_far = record {
  count = so_far.count ∙ e;
  each = λ k inside lt. so_far.each k inside (omega arith);
  inner = λ k inside lt. so_far.inner k inside (omega arith);
}

-- the content box of a box of used sizes is as wide as a used width
pub content_fits : (z : BoxSizes) → SizeFits z → IsPosition (content_block z).width.0
content_fits z fits = (omega (arith, ints, fits.width.0, fits.width.1), omega (arith, ints, fits.width.0, fits.width.1))
