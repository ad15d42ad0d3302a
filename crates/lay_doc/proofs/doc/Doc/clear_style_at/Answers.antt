use Rattle.std.proofs.Common.{refl}
use Rattle.lay_doc.specs.Document.{Document}
use Rattle.lay_doc.specs.Changes.{without_style}
use Rattle.lay_doc.proofs.Changed.{style_kept}
use Rattle.lay_doc.proofs.doc.Doc.clear_style_at.Goals as goal

pub invariant_of-self : goal.invariant_of-self
invariant_of-self c =
    let d : Document = record { width = c.self.inside.width; height = c.self.inside.height; nodes = c.self.inside.nodes.items } in
    rw c.clear_style.ensures (style_kept d c.self.inside.index c.self.inside.text_bytes c.args.place (without_style c.args.property) c.self.invariant (rw (← c.self.view_is) at c.requires.no_text)
    (record { ids = λ n. refl; parents = λ n. refl; depths = λ n. refl; kinds = λ n. refl }) (λ n. refl))
