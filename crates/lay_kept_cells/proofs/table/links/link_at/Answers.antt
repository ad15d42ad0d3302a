use Rattle.lay_kept_cells.proofs.Cited.{inner_within}
use Rattle.lay_kept_cells.proofs.table.links.link_at.Goals as goal

pub link_to-requires : goal.link_to-requires
link_to-requires c =
    rw (c.inner.ensures, c.at.ensures.context)
    (inner_within c.args.all.now c.args.i c.args.k c.at.ensures.are c.requires.within c.requires.place)
