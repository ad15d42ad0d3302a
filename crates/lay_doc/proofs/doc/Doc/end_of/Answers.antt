use Rattle.std.proofs.Common.{◌≡◌, ap, ◌∙◌}
use Rattle.lay_doc.specs.Document.{Document, parents_of}
use Rattle.lay_doc.specs.Tree.{child_count}
use Rattle.lay_doc.proofs.Slots.{slot_is}
use Rattle.lay_doc.proofs.doc.Doc.end_of.Goals as goal

pub returns : goal.returns
returns c =
    let items : c.deref.result.now ≡ c.args.self.now.nodes = c.deref.ensures.value ∙ ap (λ (e : Document). e.nodes) c.self.view_is in
    let slot = rw items at c.last_slot.ensures in
    slot_is (parents_of c.args.self.now.nodes) c.args.place (child_count (parents_of c.args.self.now.nodes) c.args.place) c.last_slot.result slot
