use Rattle.std.proofs.Common.{subst, sym}
use Rattle.std.specs.Arc.{arc_value}
use Rattle.lay_cells.specs.Looks.{Looks}
use Rattle.lay_cells.specs.Places.{AtPlace}
use Rattle.lay_cells.specs.declared.answers.Look.TheVariants as look
use Rattle.lay_document_cells.specs.State.{State}
use Rattle.lay_cells.specs.Sound.{IsSound}
use Rattle.lay_cell_work.specs.CellLocal.{IsCellLocal}
use Rattle.lay_document_cells.proofs.SettledPlaces.{not_ready}
use Rattle.lay_document_cells.proofs.document_cells.DocumentCells.settle_at.Goals as goal

pub settle_ready-requires-clause-ready : goal.settle_ready-requires-clause-ready
settle_ready-requires-clause-ready c =
    subst (λ (s : State). AtPlace s.cells.rows c.args.place (λ r. Looks s.cells.rows r.key look.Ready)) c.self.view_is c.in-Ready.ensures

pub returns-in_default : goal.returns-in_default
returns-in_default c = record {
  ok = not_ready c.args.self.now (subst (λ (x : State). IsSound IsCellLocal x.cells) c.self.view_is c.sound.ensures) c.args.place c.requires.clean c.look_at.result c.in_default.not-Ready
      (subst (λ (s : State). AtPlace s.cells.rows c.args.place (λ r. Looks s.cells.rows r.key c.look_at.result)) c.self.view_is c.look_at.ensures);
  err = tt;
}
