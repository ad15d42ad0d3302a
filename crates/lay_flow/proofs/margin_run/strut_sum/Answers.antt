use Rattle.std.proofs.Common.{[], ◌∷◌, ◌∙◌, arith}
use Rattle.std.proofs.lemmas.Int.{ints}
use Rattle.lay_flow.proofs.StrutBounds.{holds_itself, collapse_itself}
use Rattle.lay_flow.proofs.margin_run.strut_sum.Goals as goal

pub returns-clause-near : goal.returns-clause-near
returns-clause-near c =
    let s = c.args.used.strut in
    let f = c.args.used.fits in
    let sum = c.sum.ensures (s.positive ∷ s.negative ∷ []) (holds_itself s f) ∙ collapse_itself s f in
    let a = f.positive_least in let b = f.positive_most in let d = f.negative_least in let e = f.negative_most in
    (omega (arith, ints, sum, a, d, e), omega (arith, ints, sum, b, e))
