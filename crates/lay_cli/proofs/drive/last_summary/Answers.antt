use Rattle.lay_cli.proofs.LastVersions.{whole_published}
use Rattle.lay_cli.proofs.drive.last_summary.Goals as goal

pub unreachable-requires : goal.unreachable-requires
unreachable-requires c =
    let there = rw (c.accepted.ensures, c.in-None.is) at c.tree.ensures.there in
    whole_published c.args.core.now.history c.requires there
