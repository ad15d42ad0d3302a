use Rattle.std.proofs.Common.{◌≡◌, ℕ, ◌+◌, arith, ap, ◌∙◌, length, get_or, refl}
use Rattle.lay_doc.specs.declared.node.Node.{Node}
use Rattle.lay_doc.specs.Document.{Document, depths_of, inserted, becomes}
use Rattle.lay_doc.proofs.Inserted.{HasRoom, put_document, text_size_inserted}
use Rattle.lay_doc.proofs.doc.Doc.put.Goals as goal

pub invariant_of-self-2 : goal.invariant_of-self-2
invariant_of-self-2 c =
    let d : Document = record { width = c.self.inside.width; height = c.self.inside.height; nodes = c.self.inside.nodes.items } in
    let node : Node = becomes c.args.new c.args.place (get_or (depths_of d.nodes) c.args.place 0 + 1) in
    let depth : c.depth_at.result ≡ get_or (depths_of d.nodes) c.args.place 0 = rw c.deref.ensures.value at c.depth_at.ensures in
    let made : c.into_node-node.result ≡ node = c.into_node-node.ensures.node ∙ ap (λ (m : ℕ). becomes c.args.new c.args.place (m + 1)) depth in
    let ok = c.in_ok-put_node.ensures {u = tt} in
    let nodes : c.put_node.new.nodes.items ≡ inserted d.nodes c.args.at node = ok.ok ∙ ap (inserted d.nodes c.args.at) made in
    let bytes : c.len-bytes.result ≡ length c.args.new.text = c.len-bytes.ensures ∙ ap length c.content.ensures in
    let fits : HasRoom d c.args.at node = record {
      has_parent = rw (← c.self.view_is) at c.requires.place;
      slot = rw (← c.self.view_is) at c.requires.slot;
      of_element = rw (← c.self.view_is) at c.requires.element;
      fresh = rw (← c.self.view_is) at c.requires.fresh;
      has_name = c.requires.named;
      room = rw (← c.self.view_is) at c.requires.few;
      deeper = refl;
      not_deep = rw (← c.self.view_is) at c.requires.shallow;
      not_long = c.requires.short;
      form = c.into_node-node.ensures.form;
      texts_fit = rw (← c.self.view_is) at c.requires.small;
    } in
    let text = text_size_inserted d.nodes c.args.at node in
    record {
      document = rw nodes (put_document d c.self.invariant.document c.args.at node fits);
      indexed = ok.indexed;
      text = rw nodes (omega (arith, text, bytes, c.self.invariant.text));
    }
