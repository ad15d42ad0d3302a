use Rattle.std.proofs.Common.{◌≡◌, arith, length, get_or}
use Rattle.lay_doc.specs.Document.{Document, text_lengths_of}
use Rattle.lay_doc.proofs.NodeColumns.{text_within}
use Rattle.lay_doc.proofs.Changed.{text_kept, fits_at}
use Rattle.lay_doc.proofs.doc.Doc.set_text_at.Goals as goal

pub overflow_sub-self : goal.overflow_sub-self
overflow_sub-self c =
    let d : Document = record { width = c.self.inside.width; height = c.self.inside.height; nodes = c.self.inside.nodes.items } in
    let old : c.text_bytes_at.result ≡ get_or (text_lengths_of d.nodes) c.args.place 0 = rw c.deref.ensures.value at c.text_bytes_at.ensures in
    let within = text_within d.nodes c.args.place (rw (← c.self.view_is) at c.requires.place) in
    omega (arith, c.self.invariant.text)

pub invariant_of-self : goal.invariant_of-self
invariant_of-self c =
    let d : Document = record { width = c.self.inside.width; height = c.self.inside.height; nodes = c.self.inside.nodes.items } in
    let old : c.text_bytes_at.result ≡ get_or (text_lengths_of d.nodes) c.args.place 0 = rw c.deref.ensures.value at c.text_bytes_at.ensures in
    let fits = fits_at d.nodes c.args.place (length c.args.text) (rw (← c.self.view_is) at c.requires.fault) in
    rw (c.set_text.ensures, old, c.len.ensures) (text_kept d c.self.inside.index c.self.inside.text_bytes c.args.place c.args.text c.self.invariant (rw (← c.self.view_is) at c.requires.place) fits)
