use Rattle.std.specs.Int.{w128}
use Rattle.std.proofs.Common.{◌≡◌, ◌+◌, ◌-ℤ◌, ap, sym, subst, ◌∙◌, arith, get_or, pos, to_z, of_z}
use Rattle.std.proofs.lemmas.Int.{ints}
use Rattle.lay_units.specs.Units.{IsWithinPower}
use Rattle.lay_valign.specs.declared.parts.Part.{Part}
use Rattle.lay_valign.specs.Parts.{at}
use Rattle.lay_valign.specs.Subtrees.{below_of}
use Rattle.lay_valign.specs.Pass.Reaches.{ReachesTo, widened}
use Rattle.lay_valign.proofs.Widened.{reaches_more}
use Rattle.lay_valign.proofs.reaches.belows_of.Goals as goal

pub loop-k-preserved : goal.loop-k-preserved
loop-k-preserved c =
    let few = c.requires.roots in let lt = c.loop-k-test.true in
    let value = below_of c.args.parts.now c.args.rises.now in
    let many = c.requires.as_many in
    let f = c.requires.rises c.loop-k.k (pos 0) (omega (arith, many, lt)) in
    let low = f.0 in let high = f.1 in let s = c.difference.ensures.value in
    let v : c.difference.result ≡ c.part_of.result.below.0 -ℤ at c.args.rises.now c.loop-k.k = omega (arith, ints, s, low, high) in
    let e : c.difference.result ≡ value c.loop-k.k = v ∙ ap (λ (p : Part). p.below.0 -ℤ at c.args.rises.now c.loop-k.k) c.part_of.ensures in
    let w : to_z w128 (of_z w128 c.difference.result) ≡ c.difference.result = omega (arith, ints) in
    let new : c.widen.new.reaches.items ≡ widened c.loop-k.belows.items (get_or c.args.roots.now c.loop-k.k 0) (value c.loop-k.k) =
    c.in_ok-widen.ensures ∙ ap (widened c.loop-k.belows.items (get_or c.args.roots.now c.loop-k.k 0)) (w ∙ e) in
    let more = reaches_more c.args.roots.now value c.loop-k.belows.items c.loop-k.k c.requires.first (omega (arith, few, lt)) c.loop-k.invariant
    (subst (IsWithinPower 64) e c.difference.ensures.within) in
    subst (ReachesTo c.args.roots.now value (c.loop-k.k + 1)) (sym new) more
