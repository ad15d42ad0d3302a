use Rattle.std.specs.Int.{w128}
use Rattle.std.proofs.Common.{◌≡◌, ap, ◌∙◌, arith, ℤ, ◌+ℤ◌, rules, sym, to_z, of_z}
use Rattle.std.proofs.lemmas.Int.{ints}
use Rattle.lay_valign.specs.declared.parts.Part.{Part}
use Rattle.lay_valign.specs.Parts.{at}
use Rattle.lay_valign.specs.Raises.{raise_of}
use Rattle.lay_valign.proofs.Columns.{rise_inner}
use Rattle.lay_valign.proofs.rises.rise.Goals as goal

pub sum-requires-clause-a : goal.sum-requires-clause-a
sum-requires-clause-a c =
    let few = c.requires.parts.few in let place = c.requires.place in
    let parent = ap (λ (p : Part). p.parent) c.part_of-part.ensures in
    let before = c.requires.parts.are_parts.before c.args.k (omega arith) c.requires.place in
    let f = c.requires.known.fits c.part_of-part.result.parent (omega (arith, parent, before)) in
    let low = f.0 in let high = f.1 in
    (omega (arith, ints, low, high, parent, before, few, place), omega (arith, ints, low, high, parent, before, few, place))

pub returns-clause-value : goal.returns-clause-value
returns-clause-value c =
    let few = c.requires.parts.few in let place = c.requires.place in
    let parent = ap (λ (p : Part). p.parent) c.part_of-part.ensures in
    let before = c.requires.parts.are_parts.before c.args.k (omega arith) c.requires.place in
    let f = c.requires.known.fits c.part_of-part.result.parent (omega (arith, parent, before)) in
    let low = f.0 in let high = f.1 in let s = c.sum.ensures in let p = c.raise.ensures.within.0 in let q = c.raise.ensures.within.1 in
    let v : c.sum.result ≡ at c.args.rises.now c.part_of-part.result.parent +ℤ c.raise.result =
    omega (arith, ints, s, low, high, p, q, parent, before, few, place) in
    let e = rise_inner c.args.parts.now c.args.rises.now c.args.k (omega arith) (search rules) in
    let sv : to_z w128 (of_z w128 c.sum.result) ≡ c.sum.result = omega (arith, ints) in
    sv ∙ v ∙ ap (λ (z : ℤ). at c.args.rises.now c.part_of-part.result.parent +ℤ z) c.raise.ensures.value ∙ ap
    (λ (p : Part). at c.args.rises.now p.parent +ℤ raise_of p) c.part_of-part.ensures ∙ sym e

pub returns-clause-fits : goal.returns-clause-fits
returns-clause-fits c =
    let parent = ap (λ (p : Part). p.parent) c.part_of-part.ensures in
    let before = c.requires.parts.are_parts.before c.args.k (omega arith) c.requires.place in
    let f = c.requires.known.fits c.part_of-part.result.parent (omega (arith, parent, before)) in
    let low = f.0 in let high = f.1 in let v = c.sum.ensures in let p = c.raise.ensures.within.0 in let q = c.raise.ensures.within.1 in
    (omega (arith, ints, low, v, p, parent, before), omega (arith, ints, high, v, q, parent, before))
