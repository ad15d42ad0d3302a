use Rattle.std.proofs.Common.{◌≡◌, arith, subst, sym, List, inl, refl, length, ◌∙◌}
use Rattle.lay_margins.specs.declared.edge.Run.{Run}
use Rattle.lay_margins.specs.Runs.{AreRuns}
use Rattle.lay_margins.proofs.RunSteps.{closing, all_runs}
use Rattle.lay_margins.proofs.adjoining.runs.Goals as goal

pub returns : goal.returns
returns c =
    let k : c.loop-k.k ≡ length c.args.edges.now = omega arith in
    let t = rw k at c.loop-k.invariant in
    let d = closing c.args.edges.now _ c.loop-k.first _ t (omega arith) (inl refl) in
    let e = c.in_ok-close.ensures {u = tt} in
    subst (λ (rs : List Run). AreRuns c.args.edges.now rs) (sym (c.new.ensures ∙ e)) (all_runs c.args.edges.now _ d)
