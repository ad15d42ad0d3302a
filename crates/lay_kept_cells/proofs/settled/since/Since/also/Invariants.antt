use Rattle.std.proofs.Common.{◌≡◌, take}
use Rattle.lay_kept_cells.specs.Settled.Since.{either}
use Rattle.lay_kept_cells.proofs.settled.since.Since.also.Given as goal

abbrev pub invariant-loop-i : goal.invariant-loop-i
invariant-loop-i l = (l.self-inside.changed.items ≡ either l.fn.self.changed (take l.i l.made)) × (l.self-inside.number ≡ l.fn.self.number)
