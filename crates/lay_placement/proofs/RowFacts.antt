-- The lines of block flow are within the bounds of what stands on them.
use Rattle.std.proofs.Common.{ℕ, pos, [], length, sym, subst, arith, inl, inr}
use Rattle.std.specs.List.{All}
use Rattle.std.proofs.lemmas.Bool.{cases_lt}
use Rattle.std.proofs.lemmas.Int.{ints}
use Rattle.std.proofs.lemmas.List.{get_or_past}
use Rattle.std.proofs.lemmas.List.Elements.{All-nil, All-weaker}
use Rattle.lay_lines.specs.declared.row.Ended.{Ended}
use Rattle.lay_lines.specs.Lines.{RowWithin as RowNear}
use Rattle.lay_flow.specs.Blocks.FlowPlaces.{AreNearRows, FlowPlacesValue}
use Rattle.lay_inlines.specs.Bounds.{RowWithin}
use Rattle.lay_placement.specs.ContextPlaces.{rows_at}

abbrev IsRowNear : Ended → Type 0
IsRowNear row = RowNear (pos 1152921504606846976) row

row_within : (row : Ended) → IsRowNear row → RowWithin row
row_within row near = record {
  top = (omega (arith, ints, near.top.0), omega (arith, ints, near.top.1));
  start = (omega (arith, ints, near.start.0), omega (arith, ints, near.start.1));
  end = (omega (arith, ints, near.end.0), omega (arith, ints, near.end.1));
  above = near.above;
  below = near.below;
  shifts = near.shifts;
}

rows_near : (places : FlowPlacesValue) (k : ℕ) → AreNearRows places.lines → All IsRowNear (rows_at places k)
rows_near places k near = elim (cases_lt k (length places.lines)) [
  | inl there ↦ near k [] there
  | inr beyond ↦ subst (All IsRowNear) (sym (get_or_past places.lines k [] (omega (arith, beyond)))) (All-nil IsRowNear)
]

pub rows_within : (places : FlowPlacesValue) (k : ℕ) → AreNearRows places.lines → All RowWithin (rows_at places k)
rows_within places k near = All-weaker IsRowNear RowWithin row_within (rows_at places k) (rows_near places k near)
