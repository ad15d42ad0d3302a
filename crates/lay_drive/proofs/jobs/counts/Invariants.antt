use Rattle.std.proofs.Common.{◌≡◌, length, map, take}
use Rattle.lay_drive.proofs.jobs.counts.Given as goal

abbrev pub invariant-loop-script : goal.invariant-loop-script
invariant-loop-script l = l.counts.items ≡ map length (take l.script-index l.scripts)
