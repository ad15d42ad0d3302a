use Rattle.std.proofs.Common.{◌≡◌, length}
use Rattle.lay_face.specs.FirstEntries.{AreEntries}
use Rattle.lay_face.proofs.table.first_entries.Given as goal

abbrev pub invariant-loop-c : goal.invariant-loop-c
invariant-loop-c l = AreEntries l.fn.table.entries l.fn.default_advance l.first.items × (length l.first.items ≡ l.c)
