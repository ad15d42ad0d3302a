use Rattle.std.proofs.Common.{arith}
use Rattle.std.proofs.lemmas.Int.{ints}
use Rattle.lay_grid.proofs.Products.{product_within}
use Rattle.lay_grid.proofs.spacing.spacings.Goals as goal

pub returns-clause-within : goal.returns-clause-within
returns-clause-within c =
    let h = product_within c.args.spacing.0 c.product.result c.args.count c.requires.spacing c.requires.count c.product.ensures in
    let a = h.0 in let b = h.1 in
    (omega (arith, ints, a, b), omega (arith, ints, a, b))
