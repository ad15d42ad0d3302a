use Rattle.std.proofs.Common.{arith}
use Rattle.lay_context.proofs.Cited.{container_within}
use Rattle.lay_context.proofs.settings.setting_as.Goals as goal

pub block_around-requires-clause-known : goal.block_around-requires-clause-known
block_around-requires-clause-known c =
    let within = container_within c.args.boxes.now c.args.k c.as_slice.ensures.are c.requires.place in
    rw c.as_slice-in-None.ensures.sizes (omega (arith, within, c.requires.known))
