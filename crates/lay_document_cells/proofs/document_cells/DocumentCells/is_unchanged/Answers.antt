use Rattle.std.proofs.Common.{Option, IfSome, subst}
use Rattle.lay_cells.specs.Looks.{Looks}
use Rattle.lay_cells.specs.declared.answers.Look.TheVariants as look
use Rattle.lay_kept_cells.specs.Settled.Since.{IsSince, Since}
use Rattle.lay_document_cells.proofs.UnchangedCells.{at_within, flags_fit, keeps_given, rows_fit}
use Rattle.lay_document_cells.proofs.document_cells.DocumentCells.is_unchanged.Goals as goal

pub is_unchanged-requires-clause-flags : goal.is_unchanged-requires-clause-flags
is_unchanged-requires-clause-flags c =
    flags_fit c.self.inside.doc c.self.inside.face.value c.self.inside.cells c.self.inside.laid c.self.inside.medium c.self.inside.table c.self.invariant.kept
    c.cells.result.now.contexts c.cells.ensures.contexts c.in-Some.since
    (subst (λ (o : Option Since). IfSome o (IsSince c.self.inside.medium c.self.inside.table.lists.contexts c.self.inside.cells)) c.in-Some.is c.self.invariant.known)

pub is_unchanged-requires-clause-shaped : goal.is_unchanged-requires-clause-shaped
is_unchanged-requires-clause-shaped c =
    rows_fit c.self.inside.doc c.self.inside.face.value c.self.inside.cells c.self.inside.laid c.self.inside.medium c.self.inside.table c.self.invariant.kept
    c.cells.result.now.contexts c.cells.ensures.contexts

pub is_unchanged-requires-clause-within : goal.is_unchanged-requires-clause-within
is_unchanged-requires-clause-within c = at_within _ c.args.self.now c.self.view_is (λ r. Looks c.args.self.now.cells.rows r.key look.Ready) c.args.place c.requires

pub returns-in-Some : goal.returns-in-Some
returns-in-Some c t =
    keeps_given c.self.inside.doc c.self.inside.face.value c.self.inside.cells c.self.inside.laid c.self.inside.medium c.self.inside.table c.self.invariant.kept
    c.cells.result.now.contexts c.cells.ensures.contexts c.unchanged_cells_keep_inputs.ensures c.args.self.now c.self.view_is c.in-Some.since
    (subst (λ (o : Option Since). IfSome o (IsSince c.self.inside.medium c.self.inside.table.lists.contexts c.self.inside.cells)) c.in-Some.is c.self.invariant.known)
    c.args.place (c.is_unchanged.ensures.0 t)
