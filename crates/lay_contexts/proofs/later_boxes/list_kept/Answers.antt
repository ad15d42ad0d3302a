use Rattle.std.proofs.Common.{rules, ◌≡◌, ◌++◌, ◌∷◌, [], false, true, length, ap, sym, ◌∙◌, arith}
use Rattle.lay_contexts.specs.Contexts.{boxes_in}
use Rattle.lay_contexts.specs.FormattingContexts.{formatting_context_at}
use Rattle.lay_contexts.specs.Homes.{is_root}
use Rattle.lay_contexts.proofs.FollowedLinks.{context_follows, kept_follows, next_there, passed_follows}
use Rattle.lay_contexts.proofs.later_boxes.list_kept.Goals.{then-is_root+in_ok-context+in_ok-push, else-is_root}
use Rattle.lay_contexts.proofs.later_boxes.list_kept.Goals as goal

pub shared-requires : goal.shared-requires
shared-requires c =
    let contexts = c.args.of.now.contexts.now in
    let later = c.args.of.now.later.now in
    let all = c.args.of.now.all.now in
    let i = c.args.i in
    let r = c.loop-r.r in
    let boxes : c.as_slice-boxes.result.now ≡ boxes_in later i = search rules in
    let within = rw boxes at c.loop-r-test.true in
    let root : is_root (boxes_in later i) r ≡ true = rw boxes at (sym c.is_root.ensures ∙ c.if-is_root.true) in
    let there = next_there contexts later c.requires.links all c.loop-r.items.items i r c.loop-r.invariant c.requires.within within root in
    omega (arith, there, c.len.ensures)

pub loop-r-preserved : goal.loop-r-preserved
loop-r-preserved c =
    let contexts = c.args.of.now.contexts.now in
    let later = c.args.of.now.later.now in
    let all = c.args.of.now.all.now in
    let i = c.args.i in
    let r = c.loop-r.r in
    let boxes : c.as_slice-boxes.result.now ≡ boxes_in later i = search rules in
    let test : c.is_root.result ≡ is_root (boxes_in later i) r = rw boxes at c.is_root.ensures in
    let within = rw boxes at c.loop-r-test.true in
    elim c.if-is_root.branch [
      | then-is_root+in_ok-context+in_ok-push w ↦ (let items : c.if-is_root.items.items ≡ c.loop-r.items.items ++ w.in_ok-context.context ∷ [] = search rules in
          let is : w.in_ok-context.context ≡ formatting_context_at all (length c.loop-r.items.items) = w.in_ok-context.ensures {u = tt} ∙ ap (formatting_context_at all) (w.len.ensures ∙ c.loop-r.items.ok.0) in
          rw items (kept_follows contexts later c.requires.links all c.loop-r.items.items i r c.loop-r.invariant c.requires.within within (sym test ∙ w.if-is_root.true) c.requires.kept
          w.in_ok-context.context is))
      | else-is_root w ↦ (let items : c.if-is_root.items.items ≡ c.loop-r.items.items = search rules in
          rw items (passed_follows contexts later c.requires.links all c.loop-r.items.items i r c.loop-r.invariant c.requires.within (sym test ∙ w.if-is_root.false)))
    ]

pub returns : goal.returns
returns c =
    let later = c.args.of.now.later.now in
    let boxes : c.as_slice-boxes.result.now ≡ boxes_in later c.args.i = search rules in
    let count = ap length boxes in
    context_follows c.args.of.now.contexts.now later c.requires.links c.args.of.now.all.now c.loop-r.items.items c.args.i c.loop-r.r c.loop-r.invariant c.requires.within
    (omega (arith, count, c.loop-r-test.false, c.loop-r.auto.r-end))
