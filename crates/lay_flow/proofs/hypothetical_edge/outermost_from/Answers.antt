use Rattle.std.proofs.Common.{arith, inl, inr, ap}
use Rattle.std.proofs.lemmas.Bool.{cases_lt, cases_eq}
use Rattle.lay_flow.specs.Blocks.Boxes.{parent_at}
use Rattle.lay_flow.proofs.BlocksLemmas.BoxTrees.{parents_together}
use Rattle.lay_flow.proofs.hypothetical_edge.outermost_from.Goals as goal

pub loop-outermost-preserved : goal.loop-outermost-preserved
loop-outermost-preserved c =
    let boxes = c.args.before.now.at.boxes.list.now in
    let o = c.loop-outermost.outermost in
    let inv = c.loop-outermost.invariant in
    let positive = inv.0 in let most = inv.1 in let around = inv.2 in
    let order = c.args.before.now.most in let within = c.args.before.now.at.within in
    let p = c.parent-parent.result in
    let is = c.parent-parent.ensures.value in
    let less = c.parent-parent.ensures.before positive in
    let test = c.if-parent-before.false in
    let least = c.args.before.now.least in (
      omega (arith, least, test, is),
      omega (arith, less, most),
      λ i low high. elim (cases_lt i o) [
        | inl before ↦ (let le = parents_together boxes c.args.before.now.at.boxes.are.is_tree.tree i o before (omega (arith, most, within)) (omega (arith, is, low)) in omega (arith, le, is))
        | inr after ↦ elim (cases_eq i o) [
          | inl e ↦ (let q = ap (parent_at boxes) e in omega (arith, q, is))
          | inr ne ↦ (let le = around i (omega (arith, after, ne)) high in omega (arith, le, less))
        ]
      ],
      λ lt. omega (arith, test, is),
    )
