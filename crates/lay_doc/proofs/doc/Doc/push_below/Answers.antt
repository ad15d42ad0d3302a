use Rattle.std.proofs.Common.{◌≡◌, ℕ, ◌+◌, ap, ◌∙◌, slice_index}
use Rattle.lay_doc.specs.Document.{Document, parents_of, depths_of, inserted, becomes}
use Rattle.lay_doc.specs.Tree.{child_count}
use Rattle.lay_doc.proofs.Slots.{slot_is}
use Rattle.lay_doc.proofs.doc.Doc.push_below.Goals as goal

pub returns-clause-ok : goal.returns-clause-ok
returns-clause-ok c =
    let d : Document = c.args.self.now in
    let items : c.deref.result.now ≡ d.nodes = c.deref.ensures.value ∙ ap (λ (e : Document). e.nodes) c.self.view_is in
    let slot = rw items at c.last_slot-at.ensures in
    let at = slot_is (parents_of d.nodes) c.args.place (child_count (parents_of d.nodes) c.args.place) c.last_slot-at.result slot in
    let ok = c.in_ok-put.ensures {u = tt} in
    ok.ok ∙ ap (λ (m : ℕ). record d { nodes = inserted d.nodes m (becomes c.args.new c.args.place (slice_index (depths_of d.nodes) c.args.place + 1)) }) at
