use Rattle.std.proofs.Common.{◌≡◌, ℕ, ◌+◌, List, arith, ap, ◌∙◌}
use Rattle.std.specs.List.{remove_range}
use Rattle.lay_doc.specs.declared.node.Node.{Node}
use Rattle.lay_doc.specs.Tree.{child_count, end_of}
use Rattle.lay_doc.specs.Document.{Document, parents_of, text_size}
use Rattle.lay_doc.specs.Removal.{removed, removed_between}
use Rattle.lay_doc.proofs.NodeColumns.{length-parents}
use Rattle.lay_doc.proofs.Slots.{slot_is}
use Rattle.lay_doc.proofs.Removed.{CutsSubtree, removed_document, ids_removed, text_size_removed}
use Rattle.lay_doc.proofs.doc.Doc.remove_at.Goals as goal

pub invariant_of-self : goal.invariant_of-self
invariant_of-self c =
    let d : Document = record { width = c.self.inside.width; height = c.self.inside.height; nodes = c.self.inside.nodes.items } in
    let end : ℕ = c.last_slot-end.result in
    let len = length-parents d.nodes in
    let cuts : CutsSubtree (parents_of d.nodes) c.args.place end = record {
      tree = c.self.invariant.document.tree;
      has = omega (arith, rw (← c.self.view_is) at c.requires.place);
      not_root = c.requires.not_root;
      slot = rw c.deref.ensures.value at c.last_slot-end.ensures;
    } in
    let bytes : c.text_bytes_between.result + text_size (remove_range d.nodes c.args.place end) ≡ text_size d.nodes = rw c.deref-3.ensures.value at c.text_bytes_between.ensures in
    let index = rw c.deref-2.ensures.value at c.in_ok-index.ensures in
    let nodes : c.remove_between.new.nodes.items ≡ removed_between d.nodes c.args.place end = c.remove_between.ensures in
    rw nodes (record {
      document = removed_document d c.args.place end c.self.invariant.document cuts (omega (arith, c.self.invariant.document.small));
      indexed = rw (ids_removed d.nodes c.args.place end) index;
      text = omega (arith, text_size_removed d.nodes c.args.place end, c.self.invariant.text);
    })

pub returns-clause-ok : goal.returns-clause-ok
returns-clause-ok c =
    let d : Document = record { width = c.self.inside.width; height = c.self.inside.height; nodes = c.self.inside.nodes.items } in
    let slot = rw c.deref.ensures.value at c.last_slot-end.ensures in
    let end : c.last_slot-end.result ≡ end_of (parents_of d.nodes) c.args.place = slot_is (parents_of d.nodes) c.args.place (child_count (parents_of d.nodes) c.args.place) c.last_slot-end.result slot in
    let nodes : c.remove_between.new.nodes.items ≡ removed d.nodes c.args.place = c.remove_between.ensures ∙ ap (removed_between d.nodes c.args.place) end in
    ap (λ (ns : List Node). record d { nodes = ns }) nodes ∙ ap (λ (x : Document). record x { nodes = removed x.nodes c.args.place }) c.self.view_is
