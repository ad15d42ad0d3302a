use Rattle.std.proofs.Common.{length}
use Rattle.std.specs.Str.Iter.{chars_rest}
use Rattle.lay_space.proofs.Rows.{IsLeft}
use Rattle.lay_space.proofs.collapsing.collapsed_by_character.Given as goal

abbrev pub invariant-loop-c : goal.invariant-loop-c
invariant-loop-c l = IsLeft l.mode l.text l.after_space (chars_rest l.rest) l.kept l.state

abbrev pub decreases-loop-c : goal.decreases-loop-c
decreases-loop-c l = length (chars_rest l.rest)
