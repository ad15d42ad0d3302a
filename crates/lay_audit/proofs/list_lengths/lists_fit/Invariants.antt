use Rattle.std.proofs.Common.{All, take}
use Rattle.lay_audit.specs.Presents.{AreCommandsWithin}
use Rattle.lay_audit.proofs.list_lengths.lists_fit.Given as goal

abbrev pub invariant-loop-script : goal.invariant-loop-script
invariant-loop-script l = All AreCommandsWithin (take l.script-index l.scripts)
