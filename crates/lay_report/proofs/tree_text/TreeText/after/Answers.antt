use Rattle.std.proofs.Common.{◌≡◌, ◌∙◌, ◌+◌, ◌++◌, arith, ap, length, sym, take}
use Rattle.std.proofs.lemmas.List.{length_push}
use Rattle.lay_frag.specs.Lines.{context_text, tree_text}
use Rattle.lay_report.proofs.Streams.{flat_more}
use Rattle.lay_report.proofs.TextLemmas.{mark_more}
use Rattle.lay_report.proofs.tree_text.TreeText.after.Goals as goal

pub loop-i-preserved : goal.loop-i-preserved
loop-i-preserved c =
    let tree = c.args.tree.now in
    let i = c.loop-i.i in
    let inv = c.loop-i.invariant in
    let here = c.context_at.result.now in
    let added = c.in_ok-push_lines.ensures {u = tt} in
    let bytes = added ∙ (ap (λ bs. bs ++ context_text here) inv.bytes ∙ sym (flat_more context_text tree i here c.context_at.ensures.at)) in
    let pushed = (c.in_ok-push-2.ensures {u = tt}).items in
    let mark : c.len.result ≡ length (tree_text (take (i + 1) tree)) = c.len.ensures ∙ (c.push_lines.new.bytes.ok.0 ∙ ap length bytes) in
    record {
      bytes = bytes;
      count = omega (arith, ap length pushed, length_push c.loop-i.marks.items c.len.result, inv.count);
      marks = mark_more tree c.loop-i.marks.items c.push-in-loop-i.new.self.items i c.len.result inv.count pushed mark inv.marks;
    }
