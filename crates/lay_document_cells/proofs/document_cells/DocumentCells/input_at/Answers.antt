use Rattle.std.proofs.Common.{subst, sym}
use Rattle.std.specs.Arc.{arc_value}
use Rattle.lay_cells.specs.Looks.{Looks}
use Rattle.lay_cells.specs.Places.{AtPlace}
use Rattle.lay_cells.specs.declared.answers.Look.TheVariants as look
use Rattle.lay_document_cells.specs.State.{State}
use Rattle.lay_document_cells.proofs.Answered.{given_here, ok_then}
use Rattle.lay_document_cells.proofs.document_cells.DocumentCells.input_at.Goals as goal

pub input_at-requires-clause-ready : goal.input_at-requires-clause-ready
input_at-requires-clause-ready c =
    subst (λ (s : State). AtPlace s.cells.rows c.args.place (λ r. Looks s.cells.rows r.key look.Ready)) (sym c.self.view_is) c.requires.ready

pub returns : goal.returns
returns c =
    ok_then c.input_at.result _ _ c.input_at.ensures.of
    (λ i given. given_here c.self.inside.doc c.self.inside.face.value c.self.inside.cells c.self.inside.laid c.self.inside.medium c.self.inside.table c.self.invariant.kept c.args.self.now c.self.view_is
    c.cells.result.now c.cells.ensures.contexts c.cells.ensures.formatting c.args.place (arc_value i) given)
