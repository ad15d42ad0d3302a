use Rattle.std.proofs.Common.{◌<◌, ◌∙◌, sym, arith, subst, ℕ, length, inl, inr}
use Rattle.std.proofs.lemmas.Bool.{cases_eq}
use Rattle.lay_flow.specs.Blocks.Boxes.{parent_at}
use Rattle.lay_flow.specs.Pass.LookAhead.{IsReading, reading}
use Rattle.lay_flow.specs.Blocks.MarginRuns.{block_at, may_collapse_through}
use Rattle.lay_flow.proofs.LookAheadSteps.{closed_read, closed_last, closed_reading, after_outset, goes_past, ends_parted}
use Rattle.lay_flow.proofs.hypothetical_edge.LookAhead.close_to.Goals as goal

pub returns-then-ends_at-clause-ended : goal.returns-then-ends_at-clause-ended
returns-then-ends_at-clause-ended c ended =
    let p = c.loop-innermost.innermost in
    let was = c.loop-innermost.invariant in
    let test = c.loop-innermost-test.true in
    let stops = sym c.ends_at.ensures ∙ c.if-ends_at.true in
    let begun = was.begun in
    let within = was.place.parent in
    let after : c.args.self.now.from.k < c.args.m = after_outset c.args.self.now.boxes.list.now c.args.self.now.from c.args.self.now.begins p c.holder_at-to.result c.args.m begun was.first_place c.holder_at-to.ensures.next test in
    let ends : c.args.m < length c.args.self.now.boxes.list.now → parent_at c.args.self.now.boxes.list.now c.args.m < p = λ w. (let n = c.holder_at-to.ensures.next w in let l = was.place.next w in omega (arith, n, l, test)) in
    elim (cases_eq p c.args.self.now.from.outermost) [
      | inl e ↦ closed_last c.args.self.now.boxes.list.now c.args.self.now.boxes.are.is_tree.tree c.args.self.now.from c.args.self.now.begins p c.args.m c.loop-innermost.used.strut was after ends e
      | inr ne ↦ closed_read c.args.self.now.boxes.list.now c.args.self.now.boxes.are.is_tree.tree c.args.self.now.from c.args.self.now.begins p c.args.m c.loop-innermost.used.strut was after ends (ends_parted p c.args.self.now.from.outermost (may_collapse_through (block_at c.args.self.now.boxes.list.now p)) ne stops)
    ]

pub loop-innermost-preserved : goal.loop-innermost-preserved
loop-innermost-preserved c =
    let p = c.loop-innermost.innermost in
    let was = c.loop-innermost.invariant in
    let test = c.loop-innermost-test.true in
    let goes = goes_past p c.args.self.now.from.outermost (may_collapse_through (block_at c.args.self.now.boxes.list.now p)) (sym c.ends_at.ensures ∙ c.if-ends_at.false) in
    let adds = rw c.block.ensures.value at c.with_margin-used.ensures in
    let after : c.args.self.now.from.k < c.args.m = after_outset c.args.self.now.boxes.list.now c.args.self.now.from c.args.self.now.begins p c.holder_at-to.result c.args.m was.begun was.first_place c.holder_at-to.ensures.next test in
    let ends : c.args.m < length c.args.self.now.boxes.list.now → parent_at c.args.self.now.boxes.list.now c.args.m < p = λ w. (let n = c.holder_at-to.ensures.next w in let l = was.place.next w in omega (arith, n, l, test)) in
    let next = closed_reading c.args.self.now.boxes.list.now c.args.self.now.boxes.are.is_tree.tree c.args.self.now.from c.args.self.now.begins p c.args.m c.loop-innermost.used.strut was after ends c.with_margin-used.result.strut c.with_margin-used.result.fits adds goes.other goes.passes in
    subst (λ (q : ℕ). IsReading c.args.self.now.boxes.list.now c.args.self.now.from (reading c.with_margin-used.result.strut q c.args.m)) (sym c.parent-innermost.ensures.value) next
