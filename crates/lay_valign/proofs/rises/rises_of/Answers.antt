use Rattle.std.specs.Int.{w128}
use Rattle.std.proofs.Common.{◌≡◌, ◌+◌, ℤ, List, to_z, of_z, ap, ◌∙◌, arith, sym, subst}
use Rattle.std.proofs.lemmas.Int.{ints}
use Rattle.lay_valign.specs.Subtrees.{rise_of}
use Rattle.lay_valign.specs.Pass.Columns.{IsRise, RisesTo}
use Rattle.lay_valign.proofs.Columns.{rise_more}
use Rattle.lay_valign.proofs.rises.rises_of.Goals as goal

pub loop-k-preserved : goal.loop-k-preserved
loop-k-preserved c =
    let w : to_z w128 (of_z w128 c.rise-rise.result) ≡ c.rise-rise.result = omega (arith, ints) in
    let value = c.rise-rise.ensures.value ∙ ap (λ (xs : List ℤ). rise_of c.args.parts.now xs c.loop-k.k) c.as_slice.ensures.value in
    let pushed = (c.in_ok-push.ensures {u = tt}).items in
    subst (RisesTo c.args.parts.now (c.loop-k.k + 1)) (sym pushed)
    (rise_more c.args.parts.now c.requires.are_parts _ (to_z w128 (of_z w128 c.rise-rise.result)) c.loop-k.k c.loop-k-test.true c.loop-k.invariant
    (w ∙ value) (subst (IsRise c.loop-k.k) (sym w) c.rise-rise.ensures.fits))
