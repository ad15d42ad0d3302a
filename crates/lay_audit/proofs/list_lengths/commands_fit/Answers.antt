use Rattle.std.proofs.Common.{take_all, arith, subst}
use Rattle.std.proofs.lemmas.List.Elements.{All-more}
use Rattle.lay_audit.specs.Presents.{IsCommandWithin}
use Rattle.lay_audit.proofs.list_lengths.commands_fit.Goals as goal

pub loop-command-preserved : goal.loop-command-preserved
loop-command-preserved c =
    All-more IsCommandWithin c.args.commands.now c.loop-command.command-index c.command-item.result c.loop-command-test.true c.loop-command.invariant
    (subst IsCommandWithin c.command-item.is c.command_fits.ensures)

pub returns : goal.returns
returns c = rw (take_all c.loop-command.command-index c.args.commands.now (omega arith)) at c.loop-command.invariant
