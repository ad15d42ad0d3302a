use Rattle.lay_table_grid.proofs.bordered.collapsed_cell.Goals as goal

pub returns-clause-borders : goal.returns-clause-borders
returns-clause-borders c = c.bordered.ensures.collapsed c.args.edges.now c.in_ok-sides.ensures.borders
