use Rattle.std.proofs.Common.{◌≡◌, ◌++◌, length, map}
use Rattle.std.specs.Vec.Iter.{into_iter_items, into_iter_len}
use Rattle.lay_drive.proofs.jobs.paired.Given as goal

abbrev pub invariant-loop-pass : goal.invariant-loop-pass
invariant-loop-pass l =
    (map (λ j. j.pass) l.jobs.items ≡ l.yielded)
    × (map (λ j. j.script) l.jobs.items ++ l.scripts.items ≡ l.fn.scripts)
    × (length (into_iter_items l.pass-iterator) ≡ length l.scripts.items)
    × (l.yielded ++ into_iter_items l.pass-iterator ≡ l.fn.passes.items)
    × (into_iter_len l.pass-iterator ≡ length (into_iter_items l.pass-iterator))
