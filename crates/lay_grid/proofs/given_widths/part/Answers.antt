use Rattle.std.specs.Int.{w64}
use Rattle.std.proofs.Common.{◌≡◌, ◌∙◌, ◌+◌, ◌/◌, pos, to_z, ap, arith}
use Rattle.std.proofs.lemmas.Int.{ints}
use Rattle.lay_grid.proofs.Products.{part_below, greater_part_below, greater_part, lesser_part}
use Rattle.lay_grid.proofs.given_widths.part.Goals as goal

pub returns-then-k-width-clause-value : goal.returns-then-k-width-clause-value
returns-then-k-width-clause-value c =
    let b = greater_part_below c.args.width c.args.span c.args.k c.requires.width c.if-k-width.true in
    let e : to_z w64 (c.args.width / c.args.span + 1) ≡ pos (c.args.width / c.args.span + 1) = omega (arith, ints, b) in
    e ∙ ap pos (greater_part c.args.width c.args.span c.args.k c.if-k-width.true)

pub returns-then-k-width-clause-fits : goal.returns-then-k-width-clause-fits
returns-then-k-width-clause-fits c =
    let b = greater_part_below c.args.width c.args.span c.args.k c.requires.width c.if-k-width.true in
    (omega (arith, ints, b), omega (arith, ints, b))

pub returns-clause-value : goal.returns-clause-value
returns-clause-value c =
    let b = part_below c.args.width c.args.span c.requires.width in
    let e : to_z w64 (c.args.width / c.args.span) ≡ pos (c.args.width / c.args.span) = omega (arith, ints, b) in
    e ∙ ap pos (lesser_part c.args.width c.args.span c.args.k c.if-k-width.false)

pub returns-clause-fits : goal.returns-clause-fits
returns-clause-fits c =
    let b = part_below c.args.width c.args.span c.requires.width in
    (omega (arith, ints, b), omega (arith, ints, b))
