use Rattle.std.proofs.Common.{◌∙◌, arith, subst, sym, refl, Option, IfSome, ℕ}
use Rattle.std.proofs.lemmas.List.{take_all}
use Rattle.std.proofs.lemmas.List.Elements.{All-more, All-same}
use Rattle.lay_after_edits.proofs.Cited.{length-ids, place_within}
use Rattle.lay_doc.specs.Document.{ids_of}
use Rattle.lay_after_edits.specs.Contexts.Changed.{ChangesAt}
use Rattle.lay_after_edits.proofs.ContextsLemmas.StayingNodes.{IsFlagged, all-stay, flagged-still}
use Rattle.lay_after_edits.proofs.contexts.changed.changed_nodes.Goals as goal

pub loop-edit-preserved : goal.loop-edit-preserved
loop-edit-preserved c =
    let nodes = c.args.doc.now.nodes in
    let known = c.loop-edit.invariant in
    let marked = c.mark.ensures in
    let changes : ChangesAt (ids_of nodes) c.edit-item.result c.in-Some.place =
    subst (λ (o : Option ℕ). IfSome o (ChangesAt (ids_of nodes) c.edit-item.result)) c.in-Some.is c.changed_place.ensures in
    let within = place_within changes.id (ids_of nodes) c.in-Some.place changes.named in
    record {
      count = marked.as_many ∙ known.count;
      each = All-more (IsFlagged (ids_of nodes) c.mark.new.flags.items) c.args.edits.now c.loop-edit.edit-index c.edit-item.result c.loop-edit-test.true
          (flagged-still (ids_of nodes) c.in-Some.place c.loop-edit.flags.items c.mark.new.flags.items marked _ known.each)
          (subst (IsFlagged (ids_of nodes) c.mark.new.flags.items) c.edit-item.is
          (record { place = c.in-Some.place; changes = changes; flag = marked.here (omega (arith, within, length-ids nodes, known.count)) }));
    }

pub returns : goal.returns
returns c =
    let nodes = c.args.doc.now.nodes in
    let known = c.loop-edit.invariant in
    all-stay (ids_of nodes) c.loop-edit.flags.items c.args.doc.now c.args.edits.now known.count refl
    (All-same (IsFlagged (ids_of nodes) c.loop-edit.flags.items) c.args.edits.now _ (sym (take_all c.loop-edit.edit-index c.args.edits.now c.loop-edit-test.false)) known.each)
