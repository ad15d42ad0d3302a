use Rattle.std.proofs.Common.{arith, subst, sym, List, inl, inr}
use Rattle.lay_margins.specs.declared.edge.Run.{Run}
use Rattle.lay_margins.specs.Runs.{IsSolidAt, IsClearAt}
use Rattle.lay_margins.proofs.RunSteps.{Closed, closing, after_solid, after_clear, after_other}
use Rattle.lay_margins.proofs.adjoining.pass.Goals as goal

pub returns-in_ok-close-in-Solid : goal.returns-in_ok-close-in-Solid
returns-in_ok-close-in-Solid c =
    let s : IsSolidAt c.args.edges.now c.args.k = (c.in-Solid.field-0, c.in-Solid.ensures) in
    let d = closing c.args.edges.now _ c.args.first c.args.k c.requires.known (omega arith) (inr (inl s)) in
    let e = c.in_ok-close-in-Solid.ensures {u = tt} in
    after_solid c.args.edges.now _ c.args.k (subst (λ (rs : List Run). Closed c.args.edges.now rs c.args.k) (sym e) d) s

pub returns-in_ok-close-in-Clear : goal.returns-in_ok-close-in-Clear
returns-in_ok-close-in-Clear c =
    let s : IsClearAt c.args.edges.now c.args.k = (c.in-Clear.field-0, c.in-Clear.ensures) in
    let d = closing c.args.edges.now _ c.args.first c.args.k c.requires.known (omega arith) (inr (inr s)) in
    let e = c.in_ok-close-in-Clear.ensures {u = tt} in
    after_clear c.args.edges.now _ c.args.k (subst (λ (rs : List Run). Closed c.args.edges.now rs c.args.k) (sym e) d) s

pub returns-in-Margin : goal.returns-in-Margin
returns-in-Margin c = after_other c.args.edges.now _ c.args.first c.args.k _ c.requires.known c.edge_at.ensures c.in-Margin.is
