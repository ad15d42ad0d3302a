use Rattle.std.proofs.Common.{pos, sym, subst}
use Rattle.lay_units.specs.Units.{IsUsedSize}
use Rattle.lay_units.specs.declared.length.Unit.{Unit}
use Rattle.lay_units.specs.declared.records.Len.{Len}
use Rattle.lay_flow.specs.Blocks.BlockPositions.{given_or_auto}
use Rattle.lay_flow.proofs.BlocksLemmas.HeightBounds.{min_max_size}
use Rattle.lay_flow.proofs.blocks.block_height.StandingBlock.framed.Goals as goal
use Rattle.lay_flow.proofs.blocks.block_height.StandingBlock.framed.Goals.{in-Auto, in-Of}

pub with_edges-requires : goal.with_edges-requires
with_edges-requires c =
    let fits = c.args.self.now.fits in
    let size : IsUsedSize c.match-self.content.0 = elim c.match-self.branch [
      | in-Auto w ↦ subst (λ (v : Unit). IsUsedSize v.0) (sym w.content-is) c.requires
      | in-Of w ↦ subst (λ (v : Unit). IsUsedSize v.0) (sym w.content-is) (subst (λ (h : Len). IsUsedSize (given_or_auto h (pos 0))) w.in-Of.is fits.height)
    ] in
    subst IsUsedSize (sym c.with_min_max-height.ensures) (min_max_size _ _ _ size fits.min_height)
