-- One line says what is seen at a point.
use Rattle.std.proofs.Common.{◌≡◌, ◌∙◌, sym, ap}
use Rattle.lay_doc.specs.Document.{parents_of, declarations_of}
use Rattle.lay_doc.specs.Laws.{OneStyleColumn}
use Rattle.lay_context.specs.Laws.{OneSolution}
use Rattle.lay_hit.specs.Hits.{hit_of}
use Rattle.lay_hit.specs.HitLines.{hit_line}
use Rattle.lay_cli.specs.Laws.{OneHitReport}

pub one_hit_report : OneSolution → OneStyleColumn → OneHitReport
one_hit_report one column run at a b valid x y =
    let trees = one run.doc run.face x.seen.tree y.seen.tree valid x.seen.solves y.seen.solves in
    let styles = column (parents_of run.doc.nodes) (declarations_of run.doc.nodes) x.seen.styles y.seen.styles valid.tree x.seen.has_styles y.seen.has_styles in
    let pieces : x.piece ≡ y.piece =
    x.seen.last ∙ ap (λ t. hit_of run.doc x.seen.styles t at.x.0 at.y.0) trees
    ∙ ap (λ s. hit_of run.doc s y.seen.tree at.x.0 at.y.0) styles ∙ sym y.seen.last in
    x.text_is ∙ ap hit_line pieces ∙ sym y.text_is
