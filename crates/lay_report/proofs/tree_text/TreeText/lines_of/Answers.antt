use Rattle.std.proofs.Common.{◌≡◌, ◌∙◌, ◌+◌, ◌-◌, arith, ap, length, sym, take, drop}
use Rattle.lay_frag.specs.Lines.{context_text}
use Rattle.lay_report.proofs.TextLemmas.{lines_at}
use Rattle.lay_report.proofs.tree_text.TreeText.lines_of.Goals as goal

pub part-requires : goal.part-requires
part-requires c =
    let inside = c.self.inside in
    let at = lines_at inside.tree.now inside.bytes.items inside.marks.items c.args.i c.index-from.result.now c.index-until.result.now c.context_at.result.now c.self.invariant c.context_at.ensures.at c.index-from.ensures c.index-until.ensures in
    (at.order, omega (arith, at.end, ap length c.deref.ensures.value))

pub returns : goal.returns
returns c =
    let inside = c.self.inside in
    let from = c.index-from.result.now in
    let until = c.index-until.result.now in
    let at = lines_at inside.tree.now inside.bytes.items inside.marks.items c.args.i from until c.context_at.result.now c.self.invariant c.context_at.ensures.at c.index-from.ensures c.index-until.ensures in
    c.part.ensures ∙ (ap (λ bs. take (until - from) (drop from bs)) c.deref.ensures.value ∙ (at.same ∙ ap context_text (c.same_context.ensures.0 c.if-not-same_context.false)))
