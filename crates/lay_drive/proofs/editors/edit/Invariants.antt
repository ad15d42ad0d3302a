use Rattle.std.proofs.Common.{◌≡◌, ◌++◌, length}
use Rattle.std.specs.Vec.Iter.{into_iter_items, into_iter_len}
use Rattle.lay_drive.specs.Runs.{AreCalled}
use Rattle.lay_drive.proofs.editors.edit.Given as goal

abbrev pub invariant-loop-command : goal.invariant-loop-command
invariant-loop-command g l =
    AreCalled l.fn.job.pass l.yielded l.pass
    × (l.yielded ++ into_iter_items l.command-iterator ≡ l.fn.job.script)
    × (into_iter_len l.command-iterator ≡ length (into_iter_items l.command-iterator))
