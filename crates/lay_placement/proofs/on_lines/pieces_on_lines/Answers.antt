use Rattle.std.proofs.Common.{◌∙◌, sym, subst}
use Rattle.lay_flow.specs.Blocks.FlowBoxes.{BlockBoxFits, KindFits}
use Rattle.lay_placement.proofs.on_lines.pieces_on_lines.Goals as goal

pub line_pieces-requires : goal.line_pieces-requires
line_pieces-requires c =
    let fits : BlockBoxFits c.in-Lines.lines.block = subst KindFits (sym c.kind_at.ensures.kind ∙ c.in-Lines.is) c.kind_at.ensures.fits in
    record {
      left = rw c.line_container.ensures fits.left;
      rows = c.rows_within.ensures.within;
      areas = c.requires.within;
    }
