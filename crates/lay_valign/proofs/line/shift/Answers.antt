use Rattle.std.specs.Int.{w128}
use Rattle.std.proofs.Common.{◌≡◌, ℤ, pos, ◌+ℤ◌, to_z, of_z, ap, ◌∙◌, arith}
use Rattle.std.specs.Prelude.{slice_index}
use Rattle.std.proofs.lemmas.Int.{ints}
use Rattle.lay_valign.specs.LineShape.{base_of, shift_of}
use Rattle.lay_valign.proofs.Extents.{above_fits, below_fits, shift_fits}
use Rattle.lay_valign.proofs.line.shift.Goals as goal

pub base-base-requires-clause-above : goal.base-base-requires-clause-above
base-base-requires-clause-above c = above_fits _ c.args.subtrees.now c.args.above.0 c.args.below.0 c.requires.parts c.requires.subtrees.are_subtrees c.requires.line

pub base-base-requires-clause-below : goal.base-base-requires-clause-below
base-base-requires-clause-below c = below_fits _ c.args.subtrees.now c.args.above.0 c.args.below.0 c.requires.parts c.requires.subtrees.are_subtrees c.requires.line

pub sum-requires-clause-b : goal.sum-requires-clause-b
sum-requires-clause-b c =
    let many = c.requires.subtrees.are_subtrees.rises.as_many in let place = c.requires.place in
    let f = c.requires.subtrees.rises c.args.k (pos 0) (omega (arith, many, place)) in
    let low = f.0 in let high = f.1 in let v = c.rise.ensures in
    (omega (arith, ints, low, high, v), omega (arith, ints, low, high, v))

summed : (c : goal.After-sum) → c.sum.result ≡ shift_of c.args.parts.now c.args.subtrees.now c.args.above.0 c.args.below.0 c.args.k
summed c =
    let s = c.sum.ensures in let p = c.base-base.ensures.within.0 in let q = c.base-base.ensures.within.1 in
    let sb : to_z w128 (of_z w128 c.base-base.result) ≡ c.base-base.result = omega (arith, ints) in
    let sr : to_z w128 (of_z w128 c.rise.result) ≡ c.rise.result = omega (arith, ints) in
    let v : c.sum.result ≡ c.base-base.result +ℤ c.rise.result = omega (arith, ints, s, sb, sr) in
    v ∙ ap (λ (z : ℤ). z +ℤ c.rise.result)
    (c.base-base.ensures.value ∙ ap (base_of c.args.parts.now c.args.subtrees.now c.args.above.0 c.args.below.0) c.root.ensures)
    ∙ ap (λ (z : ℤ). base_of c.args.parts.now c.args.subtrees.now c.args.above.0 c.args.below.0
    (slice_index c.args.subtrees.now.roots c.args.k) +ℤ z) c.rise.ensures

pub narrow-requires : goal.narrow-requires
narrow-requires c =
    let f = shift_fits c.args.parts.now c.args.subtrees.now c.args.above.0 c.args.below.0 c.args.k c.requires.parts c.requires.subtrees.are_subtrees c.requires.line c.requires.place in
    let p = f.0 in let q = f.1 in let v = summed c in
    (omega (arith, ints, p, q, v), omega (arith, ints, p, q, v))

pub returns : goal.returns
returns c =
    let sv : to_z w128 (of_z w128 c.sum.result) ≡ c.sum.result = omega (arith, ints) in
    c.narrow.ensures ∙ sv ∙ summed c.before
