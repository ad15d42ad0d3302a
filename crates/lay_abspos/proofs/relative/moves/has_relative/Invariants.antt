use Rattle.std.proofs.Common.{◌≡◌, ◌<◌, ℕ, false}
use Rattle.lay_style.specs.ComputedStyle.{style_at}
use Rattle.lay_box_tree.specs.BoxColumns.{box_styles}
use Rattle.lay_abspos.specs.Relative.RelativeOffsets.{is_relative}
use Rattle.lay_abspos.proofs.relative.moves.has_relative.Given as goal

abbrev pub invariant-loop-k : goal.invariant-loop-k
invariant-loop-k l = (j : ℕ) → j < l.k → is_relative (style_at (box_styles l.boxes) j).position ≡ false
