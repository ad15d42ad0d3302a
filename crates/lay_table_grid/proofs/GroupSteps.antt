-- The row groups before each box, counted box by box.
use Rattle.std.proofs.Common.{◌≡◌, ℕ, ◌+◌, ◌<◌, ◌≤◌, List, [], ◌∷◌, ◌++◌, length, slice_index, arith, inl, inr, sym, ◌∙◌}
use Rattle.std.proofs.lemmas.Bool.{cases_lt}
use Rattle.std.proofs.lemmas.Grind.{elements}
use Rattle.lay_box_tree.specs.declared.box_tree.BoxNode.{BoxNode}
use Rattle.lay_table_grid.specs.Pass.GroupCounts.{GroupCountsTo}
use Rattle.lay_table_grid.specs.TableBoxes.{groups_before}

read_before : (counts : List ℕ) (n k : ℕ) → k < length counts → slice_index (counts ++ n ∷ []) k ≡ slice_index counts k
read_before counts n k lt = grind (arith, elements)

read_last : (counts : List ℕ) (n k : ℕ) → k ≡ length counts → slice_index (counts ++ n ∷ []) k ≡ n
read_last counts n k e = grind (arith, elements)

pub counts_step : (boxes : List BoxNode) (k : ℕ) (counts : List ℕ) (next after : ℕ) → GroupCountsTo boxes k counts next → after ≡ groups_before boxes (k + 1) → after ≤ k + 1
    → GroupCountsTo boxes (k + 1) (counts ++ next ∷ []) after
counts_step boxes k counts next after so_far is few = record {
  as_many = grind (arith, elements, so_far.as_many);
  each = λ j lt. elim (cases_lt j k) [
    | inl low ↦ read_before counts next j (omega (arith, so_far.as_many)) ∙ so_far.each j low
    | inr high ↦ (let q : j ≡ k = omega arith in rw q (read_last counts next k (sym so_far.as_many) ∙ so_far.next_is))
  ];
  next_is = is;
  few = few;
}
