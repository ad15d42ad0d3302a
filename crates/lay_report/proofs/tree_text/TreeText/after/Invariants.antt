use Rattle.std.proofs.Common.{◌≡◌, ℕ, ◌+◌, ◌≤◌, length, slice_index_or, take}
use Rattle.lay_frag.specs.Lines.{tree_text}
use Rattle.lay_report.proofs.tree_text.TreeText.after.Given as goal

abbrev pub invariant-loop-i : goal.invariant-loop-i
invariant-loop-i l = record {
  bytes : l.bytes.items ≡ tree_text (take l.i l.tree);
  count : length l.marks.items ≡ l.i + 1;
  marks : (k d : ℕ) → k ≤ l.i → slice_index_or l.marks.items k d ≡ length (tree_text (take k l.tree));
}
