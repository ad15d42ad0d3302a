use Rattle.std.proofs.Common.{◌≡◌, chars}
use Rattle.std.specs.Str.{IsUtf8}
use Rattle.std.specs.Str.Iter.{chars_rest}
use Rattle.lay_space.specs.WhiteSpace.{runs_to_linefeed}
use Rattle.lay_space.proofs.collapsing.runs_to_linefeed.Given as goal

abbrev pub invariant-loop-c : goal.invariant-loop-c
invariant-loop-c l =
    (goal.iterator-loop-c).can_next l.c-iterator × (goal.iterator-loop-c).is_finite l.c-iterator
    × IsUtf8 (chars_rest l.c-iterator)
    × (runs_to_linefeed (chars (chars_rest l.c-iterator)) ≡ runs_to_linefeed (chars l.text))
