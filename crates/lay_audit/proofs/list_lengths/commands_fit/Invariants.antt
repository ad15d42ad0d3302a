use Rattle.std.proofs.Common.{All, take}
use Rattle.lay_audit.specs.Presents.{IsCommandWithin}
use Rattle.lay_audit.proofs.list_lengths.commands_fit.Given as goal

abbrev pub invariant-loop-command : goal.invariant-loop-command
invariant-loop-command l = All IsCommandWithin (take l.command-index l.commands)
