use Rattle.std.proofs.Common.{◌∙◌, ◌+◌, ◌-◌, ◌^◌, pos, ap, arith}
use Rattle.std.proofs.lemmas.Int.{ints}
use Rattle.std.proofs.Math.Nat.{div-le_self}
use Rattle.lay_grid.specs.Automatic.Spread.{lacking}
use Rattle.lay_grid.proofs.AutomaticLemmas.SpreadSteps.{size_at, part_fits, part_same}
use Rattle.lay_grid.proofs.automatic.spread.widen.Goals as goal

pub part-requires : goal.part-requires
part-requires c =
    let b = c.lack_of-lack.ensures.below in
    let d = div-le_self c.lack_of-lack.result c.from.result in
    omega (arith, b, d)

pub add-requires-clause-fits : goal.add-requires-clause-fits
add-requires-clause-fits c =
    let ws = c.args.widths.now.items in
    let cell = c.args.cell in
    let k = c.loop-k.k in
    let lt = c.loop-k-test.true in
    let inside = c.requires.cell.inside in
    let p = part_same c.lack_of-lack.result cell.span c.from.result c.from-2.result k c.part.result c.from.ensures c.from-2.ensures c.part.ensures in
    let s = (size_at ws c.requires.sizes (cell.column + k) (omega (arith, lt, inside))).1 in
    let w = c.requires.cell.width.1 in
    let h = part_fits c.args.spacing.0 (pos (2 ^ 62 - 1)) cell ws k c.lack_of-lack.result c.requires.spacing.0 c.requires.sizes c.requires.cell lt
    (c.lack_of-lack.ensures.value ∙ ap (lacking c.args.spacing.0 cell) c.as_slice.ensures.value) (omega (arith, ints, s)) (omega (arith, ints, w)) in
    let a = c.loop-k.invariant.after (cell.column + k) (omega arith) in
    omega (arith, ints, h, p, a)
