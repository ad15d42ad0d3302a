use Rattle.std.specs.Int.{w128}
use Rattle.std.proofs.Common.{◌≡◌, to_z, of_z, arith, ◌∙◌}
use Rattle.std.proofs.lemmas.Int.{ints, clamps}
use Rattle.lay_valign.specs.Parts.{at}
use Rattle.lay_valign.specs.LineShape.{IsLine}
use Rattle.lay_valign.proofs.Extents.{line_of, line_at, above_fits, below_fits}
use Rattle.lay_valign.proofs.line.extent.Goals as goal

pub extended-above-requires-clause-other : goal.extended-above-requires-clause-other
extended-above-requires-clause-other c =
    let m = c.extended-below.ensures.most in let f = c.extended-below.ensures.value.from in
    let a = c.above-strut_above.ensures.within.0 in let b = c.above-strut_above.ensures.within.1 in
    let p = c.below-strut_below.ensures.within.0 in let q = c.below-strut_below.ensures.within.1 in
    (omega (arith, ints, clamps, m, f, a, b, p, q), omega (arith, ints, clamps, m, f, a, b, p, q))

is_line : (c : goal.After-extended-above) → IsLine c.args.parts.now c.args.subtrees.now c.extended-above.result c.extended-below.result
is_line c =
    let a = c.above-strut_above.ensures.within.0 in let b = c.above-strut_above.ensures.within.1 in let v = c.above-strut_above.ensures.value in
    let p = c.below-strut_below.ensures.within.0 in let q = c.below-strut_below.ensures.within.1 in let w = c.below-strut_below.ensures.value in
    let sa : to_z w128 (of_z w128 c.above-strut_above.result) ≡ at c.args.subtrees.now.aboves 0 = omega (arith, ints, a, b, v) in
    let sb : to_z w128 (of_z w128 c.below-strut_below.result) ≡ at c.args.subtrees.now.belows 0 = omega (arith, ints, p, q, w) in
    let so : to_z w128 (of_z w128 c.extended-below.result) ≡ c.extended-below.result = omega (arith, ints) in
    line_of c.args.parts.now c.args.subtrees.now _ _ _ _ _ sa sb so c.extended-below.ensures.value c.extended-above.ensures.value

pub narrow-line_above-requires : goal.narrow-line_above-requires
narrow-line_above-requires c =
    let f = above_fits c.args.parts.now c.args.subtrees.now _ _ c.requires.parts c.requires.subtrees.are_subtrees (is_line c) in
    let p = f.0 in let q = f.1 in (omega (arith, ints, p, q), omega (arith, ints, p, q))

pub narrow-line_below-requires : goal.narrow-line_below-requires
narrow-line_below-requires c =
    let f = below_fits c.args.parts.now c.args.subtrees.now _ _ c.requires.parts c.requires.subtrees.are_subtrees (is_line c.before) in
    let p = f.0 in let q = f.1 in (omega (arith, ints, p, q), omega (arith, ints, p, q))

pub returns : goal.returns
returns c =
    let a : to_z w128 (of_z w128 c.extended-above.result) ≡ c.extended-above.result = omega (arith, ints) in
    let b : to_z w128 (of_z w128 c.extended-below.result) ≡ c.extended-below.result = omega (arith, ints) in
    line_at c.args.parts.now c.args.subtrees.now _ _ _ _ (c.narrow-line_above.ensures ∙ a) (c.narrow-line_below.ensures ∙ b) (is_line c.before.before)
