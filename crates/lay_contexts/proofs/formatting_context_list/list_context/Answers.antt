use Rattle.std.proofs.Common.{rules, ◌≡◌, ◌++◌, ◌∷◌, [], length, ap, sym, ◌∙◌, arith}
use Rattle.lay_contexts.specs.Contexts.{boxes_in}
use Rattle.lay_contexts.specs.Homes.{is_root}
use Rattle.lay_contexts.specs.Partings.{homes_of}
use Rattle.lay_contexts.proofs.GrowingList.{next_listed, one_listed, one_passed}
use Rattle.lay_contexts.proofs.formatting_context_list.list_context.Goals.{then-is_root+in_ok-context+in_ok-push, else-is_root}
use Rattle.lay_contexts.proofs.formatting_context_list.list_context.Goals as goal

pub loop-r-preserved : goal.loop-r-preserved
loop-r-preserved c =
    let contexts = c.args.contexts.now in
    let homes = homes_of c.args.partings.now in
    let i = c.args.i in
    let r = c.loop-r.r in
    let boxes : c.as_slice-boxes.result.now ≡ boxes_in contexts i = search rules in
    let test : c.is_root.result ≡ is_root (boxes_in contexts i) r = rw boxes at c.is_root.ensures in
    let within = rw boxes at c.loop-r-test.true in
    elim c.if-is_root.branch [
      | then-is_root+in_ok-context+in_ok-push w ↦ (let items : c.if-is_root.items.items ≡ c.loop-r.items.items ++ w.in_ok-context.context ∷ [] = search rules in
          rw items (one_listed contexts homes c.loop-r.items.items w.in_ok-context.context i r c.loop-r.invariant within (sym test ∙ w.if-is_root.true) (w.in_ok-context.ensures {u = tt})))
      | else-is_root w ↦ (let items : c.if-is_root.items.items ≡ c.loop-r.items.items = search rules in
          rw items (one_passed contexts homes c.loop-r.items.items i r c.loop-r.invariant (sym test ∙ w.if-is_root.false)))
    ]

pub returns : goal.returns
returns c =
    let contexts = c.args.contexts.now in
    let boxes : c.as_slice-boxes.result.now ≡ boxes_in contexts c.args.i = search rules in
    let count = ap length boxes in
    next_listed contexts (homes_of c.args.partings.now) c.loop-r.items.items c.args.i c.loop-r.r (omega (arith, count, c.loop-r-test.false, c.loop-r.auto.r-end)) c.loop-r.invariant
