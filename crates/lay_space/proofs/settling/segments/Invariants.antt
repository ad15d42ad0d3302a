use Rattle.std.proofs.Common.{◌≡◌, ◌++◌, drop, []}
use Rattle.std.specs.Option.{IfSome}
use Rattle.lay_space.specs.Breaks.{broken, entries_of, leads_to_atomic, settled}
use Rattle.lay_space.specs.Segments.{cut}
use Rattle.lay_space.proofs.settling.segments.Given as goal

abbrev pub invariant-loop-k : goal.invariant-loop-k
invariant-loop-k l =
    (l.settler.cutter.done.items ++ cut l.items l.settler.cutter.current.items l.settler.cutter.held.items
    (settled l.settler.at l.settler.started l.settler.waiting.items (broken l.seen.solid (drop l.k l.tokens.items)))
    ≡ cut l.items [] [] (entries_of l.tokens.items))
    × IfSome l.seen.atomic (λ b. leads_to_atomic (drop l.k l.tokens.items) ≡ b)
