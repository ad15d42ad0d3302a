use Rattle.std.proofs.Common.{◌∙◌, ap}
use Rattle.lay_doc.specs.Document.{Document}
use Rattle.lay_hit.specs.Hits.{hit_of}
use Rattle.lay_cli.proofs.at_point.piece_at.Goals as goal

pub returns : goal.returns
returns c =
    let run = c.args.run.now in
    let at = c.args.at in
    let tree = c.in_ok-tree.tree in
    let styles = c.in_ok-styles.styles in
    let solves = rw (c.doc-doc.ensures, c.face.ensures) at (c.in_ok-tree.ensures {u = tt}) in
    record {
      tree = tree;
      solves = solves;
      styles = styles;
      has_styles = rw c.doc-doc.ensures at (c.in_ok-styles.ensures {u = tt});
      once = c.solved_documents_are_painted_once.ensures run.doc run.face styles tree (rw c.doc-doc.ensures at c.nodes.ensures.valid) solves;
      last = (c.in_ok-piece.ensures {u = tt}) ∙ ap (λ (d : Document). hit_of d styles tree at.x.0 at.y.0) c.doc-doc.ensures;
    }
