use Rattle.lay_cells.specs.Looks.{Looks}
use Rattle.lay_cells.specs.declared.answers.Look.TheVariants as look
use Rattle.lay_document_cells.proofs.UnchangedCells.{at_within, reusable}
use Rattle.lay_document_cells.proofs.document_cells.DocumentCells.can_reuse.Goals as goal

pub can_reuse_at-requires-after_bounds : goal.can_reuse_at-requires-after_bounds
can_reuse_at-requires-after_bounds c κs = at_within _ c.args.self.now c.self.view_is (λ r. Looks c.args.self.now.cells.rows r.key look.Ready) c.args.place c.requires

pub returns : goal.returns
returns c t = reusable _ c.args.self.now c.self.view_is c.args.place (c.is_unchanged.ensures c.if-not-is_unchanged.false) (c.can_reuse_at.ensures.0 t)
