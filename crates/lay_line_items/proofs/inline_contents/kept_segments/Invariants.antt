use Rattle.std.proofs.Common.{ℕ, ◌≡◌, ◌<◌, false, length, slice_index_or}
use Rattle.lay_line_items.specs.InlineContents.{kept_at, kept_where}
use Rattle.lay_line_items.specs.InlineSegments.{segments_in}
use Rattle.lay_line_items.proofs.inline_contents.kept_segments.Given as goal

abbrev pub invariant-loop-k : goal.invariant-loop-k
invariant-loop-k l = record {
  count : length l.lists.items ≡ l.k;
  each : (j : ℕ) → j < l.k → kept_at l.lists.items j ≡ kept_where (slice_index_or l.marked j false) (segments_in l.face l.boxes j);
}
