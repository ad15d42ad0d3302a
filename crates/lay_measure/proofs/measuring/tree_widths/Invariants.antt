use Rattle.std.proofs.Common.{ℕ, ◌≡◌, ◌-◌, ◌<◌, Some, length, drop, slice_get}
use Rattle.lay_measure.specs.ChildTotals.{totals_of}
use Rattle.lay_measure.specs.PreferredWidths.{children}
use Rattle.lay_measure.proofs.measuring.tree_widths.Given as goal

-- the last boxes are done
abbrev pub invariant-loop-done : goal.invariant-loop-done
invariant-loop-done l =
    (length l.totals.items ≡ l.count)
    × ((p : ℕ) → p < l.count - l.done → slice_get l.totals.items p ≡ Some (totals_of (children l.of p (l.count - l.done) (drop (l.count - l.done) l.of.boxes))))
