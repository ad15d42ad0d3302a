use Rattle.std.proofs.Common.{arith}
use Rattle.lay_context_sizes.proofs.Cited.{container_before}
use Rattle.lay_context_sizes.proofs.flow_sizes.inside_sizes.Goals as goal

pub block_around-containing-requires-clause-known : goal.block_around-containing-requires-clause-known
block_around-containing-requires-clause-known c =
    let before = container_before c.args.boxes.now c.args.k c.as_slice.ensures.are c.requires.inside c.requires.place in
    omega (arith, before, c.requires.known)
