use Rattle.std.proofs.Common.{◌≡◌, ◌<◌, ℕ, false}
use Rattle.lay_box_tree.specs.InlineParts.{is_inline_at}
use Rattle.lay_abspos.proofs.relative.former_parent.has_inline.Given as goal

abbrev pub invariant-loop-k : goal.invariant-loop-k
invariant-loop-k l = (j : ℕ) → j < l.k → is_inline_at l.boxes j ≡ false
