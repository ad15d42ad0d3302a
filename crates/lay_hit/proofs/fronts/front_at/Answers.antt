use Rattle.std.proofs.Common.{rules, ◌≡◌, ◌∙◌, ap, arith}
use Rattle.lay_hit.specs.declared.kinds.PaintKind.{PaintKind}
use Rattle.lay_hit.specs.PaintKinds.{kind_at}
use Rattle.lay_hit.specs.Fronts.{front_in}
use Rattle.lay_hit.specs.Questions.{page}
use Rattle.lay_hit.proofs.Passing.{front_is}
use Rattle.lay_hit.proofs.fronts.front_at.Goals as goal

pub returns : goal.returns
returns c =
    let q = c.args.q.now in
    let kind : c.kind_at-kind.result ≡ kind_at q.doc.now.nodes q.styles.now c.args.k = search rules in
    c.front_in.ensures ∙ ap (λ (k : PaintKind). front_in (page q) k c.waiting_at.result) kind ∙ ap (front_in (page q) (kind_at q.doc.now.nodes q.styles.now c.args.k)) c.waiting_at.ensures
    ∙ front_is q c.requires.valid c.args.fronts.now 1 c.args.k (omega arith) (omega arith) c.requires.place c.requires.fronts
