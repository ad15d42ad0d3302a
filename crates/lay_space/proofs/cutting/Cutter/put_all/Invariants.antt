use Rattle.std.proofs.Common.{◌≡◌, ◌++◌, List, drop}
use Rattle.lay_space.specs.declared.breaks.Entry.{Entry}
use Rattle.lay_space.specs.Segments.{cut}
use Rattle.lay_space.proofs.cutting.Cutter.put_all.Given as goal

abbrev pub invariant-loop-k : goal.invariant-loop-k
invariant-loop-k l =
    (xs : List Entry) → l.fn.self.done.items ++ cut l.items l.fn.self.current.items l.fn.self.held.items (l.entries ++ xs)
    ≡ l.self.done.items ++ cut l.items l.self.current.items l.self.held.items (drop l.k l.entries ++ xs)
