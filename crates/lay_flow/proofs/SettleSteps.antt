-- The marks of a run that ended, one box after another.
use Rattle.std.proofs.Common.{◌≡◌, ℕ, ◌+◌, ◌<◌, ◌≤◌, true, false, ℤ, List, length, sym, ap, ◌∙◌, arith, inl, inr, subst}
use Rattle.std.proofs.lemmas.Bool.{cases_lt}
use Rattle.lay_units.specs.declared.length.Unit.{Unit as Length}
use Rattle.lay_doc.specs.Tree.{IsTree}
use Rattle.lay_flow.specs.declared.blocks.flow_box.FlowBox.{FlowBox}
use Rattle.lay_flow.specs.Blocks.Boxes.{parent_at, parents_of}
use Rattle.lay_flow.specs.Blocks.Children.{flag_at}
use Rattle.lay_flow.specs.Blocks.Lengths.{length_at}
use Rattle.lay_flow.specs.Pass.State.{RunEnd, Settled}
use Rattle.lay_flow.proofs.BlocksLemmas.BoxTrees.{parent_before}
use Rattle.lay_flow.proofs.SoFar.{Wrote}
use Rattle.lay_flow.proofs.BlocksLemmas.Truths.{true_false}

module _ (boxes : List FlowBox) (tree : IsTree (parents_of boxes)) (run : RunEnd) (before old new : List Length) (k : ℕ) (v : ℤ)
    (positive : 0 < run.first) (order : run.first ≤ k) (within : k < length boxes) (wrote : Wrote length_at old new k v) (was : Settled boxes (record run { next = k }) before old) where
  up : (j : ℕ) → run.first ≤ j → j < k → parent_at boxes j < k
  up j from lt = let less = parent_before boxes tree j (omega (arith, positive, from)) (omega (arith, lt, within)) in omega (arith, less, lt)

  inherits_before : (j : ℕ) → run.first ≤ j → j < k → flag_at run.through j ≡ true → run.first ≤ parent_at boxes j → length_at new j ≡ length_at new (parent_at boxes j)
  inherits_before j from lt flag high = let less = up j from lt in
      wrote.other j (λ e. omega (arith, e, lt)) ∙ was.inherits j from lt flag high ∙ sym (wrote.other (parent_at boxes j) (λ e. omega (arith, e, less)))

  same : (j : ℕ) → j < k + 1 → k ≤ j → j ≡ k
  same j lt ge = omega (arith, lt, ge)

  -- a box that isn't collapsed through
  pub settled_standing : flag_at run.through k ≡ false → v ≡ run.mark → Settled boxes (record run { next = k + 1 }) before new
  settled_standing stands is = record {
    length_is = wrote.length_is ∙ was.length_is;
    before = λ j lt. wrote.other j (λ e. omega (arith, e, lt, order)) ∙ was.before j lt;
    after = λ j le. wrote.other j (λ e. omega (arith, e, le)) ∙ was.after j (omega (arith, le));
    stands = λ j from lt flag. elim (cases_lt j k) [
      | inl low ↦ wrote.other j (λ e. omega (arith, e, low)) ∙ was.stands j from low flag
      | inr high ↦ ap (length_at new) (same j lt high) ∙ wrote.here ∙ is
    ];
    keeps = λ j from lt flag low. elim (cases_lt j k) [
      | inl less ↦ wrote.other j (λ e. omega (arith, e, less)) ∙ was.keeps j from less flag low
      | inr high ↦ absurd (true_false (flag_at run.through k) (ap (flag_at run.through) (sym (same j lt high)) ∙ flag) stands)
    ];
    inherits = λ j from lt flag high. elim (cases_lt j k) [
      | inl less ↦ inherits_before j from less flag high
      | inr ge ↦ absurd (true_false (flag_at run.through k) (ap (flag_at run.through) (sym (same j lt ge)) ∙ flag) stands)
    ];
  }

  -- one that is, in the run with its parent
  pub settled_inheriting : flag_at run.through k ≡ true → run.first ≤ parent_at boxes k → v ≡ length_at old (parent_at boxes k) → Settled boxes (record run { next = k + 1 }) before new
  settled_inheriting through high is = record {
    length_is = wrote.length_is ∙ was.length_is;
    before = λ j lt. wrote.other j (λ e. omega (arith, e, lt, order)) ∙ was.before j lt;
    after = λ j le. wrote.other j (λ e. omega (arith, e, le)) ∙ was.after j (omega (arith, le));
    stands = λ j from lt flag. elim (cases_lt j k) [
      | inl low ↦ wrote.other j (λ e. omega (arith, e, low)) ∙ was.stands j from low flag
      | inr ge ↦ absurd (true_false (flag_at run.through k) through (ap (flag_at run.through) (sym (same j lt ge)) ∙ flag))
    ];
    keeps = λ j from lt flag low. elim (cases_lt j k) [
      | inl less ↦ wrote.other j (λ e. omega (arith, e, less)) ∙ was.keeps j from less flag low
      | inr ge ↦ (let p = ap (parent_at boxes) (same j lt ge) in absurd (omega (arith, p, low, high)))
    ];
    inherits = λ j from lt flag up. elim (cases_lt j k) [
      | inl less ↦ inherits_before j from less flag up
      | inr ge ↦ (let e = same j lt ge in
          let less = parent_before boxes tree k (omega (arith, positive, order)) within in
          subst (λ (j : ℕ). length_at new j ≡ length_at new (parent_at boxes j)) (sym e)
          (wrote.here ∙ is ∙ sym (wrote.other (parent_at boxes k) (λ q. omega (arith, q, less)))))
    ];
  }

-- a box that is collapsed through, and whose parent's top margin is in an earlier run, keeps its mark
pub settled_keeping : (boxes : List FlowBox) (run : RunEnd) (before marks : List Length) (k : ℕ) → Settled boxes (record run { next = k }) before marks
    → flag_at run.through k ≡ true → parent_at boxes k < run.first → Settled boxes (record run { next = k + 1 }) before marks
settled_keeping boxes run before marks k was through low = record {
  length_is = was.length_is;
  before = was.before;
  after = λ j le. was.after j (omega (arith, le));
  stands = λ j from lt flag. elim (cases_lt j k) [
    | inl less ↦ was.stands j from less flag
    | inr ge ↦ absurd (true_false (flag_at run.through k) through (ap (flag_at run.through) (sym (same j lt ge)) ∙ flag))
  ];
  keeps = λ j from lt flag low. elim (cases_lt j k) [
    | inl less ↦ was.keeps j from less flag low
    | inr ge ↦ was.after j ge
  ];
  inherits = λ j from lt flag high. elim (cases_lt j k) [
    | inl less ↦ was.inherits j from less flag high
    | inr ge ↦ (let p = ap (parent_at boxes) (same j lt ge) in absurd (omega (arith, p, low, high)))
  ];
}
  where
    same : (j : ℕ) → j < k + 1 → k ≤ j → j ≡ k
    same j lt ge = omega (arith, lt, ge)
