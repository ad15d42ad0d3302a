use Rattle.std.proofs.Common.{rules, ◌≡◌, ◌∙◌, ap, slice_index, slice_set, ℕ, List}
use Rattle.lay_doc.specs.Document.{parents_of}
use Rattle.lay_hit.specs.declared.waiting.Waiting.{Waiting}
use Rattle.lay_hit.specs.Waiting.{passed_on}
use Rattle.lay_hit.proofs.Passing.{passes}
use Rattle.lay_hit.proofs.fronts.pass.Goals as goal

pub returns : goal.returns
returns c =
    let q = c.args.q.now in
    let items = c.args.fronts.now.items in
    let parent : c.parent_at-parent.result ≡ slice_index (parents_of q.doc.now.nodes) c.args.k = search rules in
    passes q c.requires.valid items c.args.k c.requires.inner c.requires.place c.requires.before (slice_set items c.parent_at-parent.result c.passed_on.result)
    (ap (λ (n : ℕ). slice_set items n c.passed_on.result) parent
    ∙ ap (slice_set items (slice_index (parents_of q.doc.now.nodes) c.args.k)) (c.passed_on.ensures ∙ ap (λ (ws : List Waiting). passed_on q ws c.args.k) c.deref.ensures.value))
