use Rattle.std.proofs.Common.{refl}
use Rattle.lay_doc.specs.Document.{Document}
use Rattle.lay_doc.specs.Changes.{with_style}
use Rattle.lay_doc.proofs.Changed.{style_kept}
use Rattle.lay_doc.proofs.doc.Doc.set_style_at.Goals as goal

pub invariant_of-self-2 : goal.invariant_of-self-2
invariant_of-self-2 c =
    let d : Document = record { width = c.self.inside.width; height = c.self.inside.height; nodes = c.self.inside.nodes.items } in
    let new = c.in_ok-set_style.ensures {u = tt} in
    rw new.ok (style_kept d c.self.inside.index c.self.inside.text_bytes c.args.place (with_style c.args.decl) c.self.invariant (rw (← c.self.view_is) at c.requires.no_text)
    (record { ids = λ n. refl; parents = λ n. refl; depths = λ n. refl; kinds = λ n. refl }) (λ n. refl))
