use Rattle.std.proofs.Common.{subst}
use Rattle.lay_cells.specs.Looks.{Looks}
use Rattle.lay_cells.specs.Places.{AtPlace}
use Rattle.lay_cells.specs.Sound.{IsSound}
use Rattle.lay_cells.specs.declared.answers.Look.TheVariants as look
use Rattle.lay_cell_work.specs.CellLocal.{IsCellLocal}
use Rattle.lay_document_cells.specs.State.{State}
use Rattle.lay_document_cells.proofs.Passing.{nothing_passes}
use Rattle.lay_document_cells.proofs.document_cells.DocumentCells.pass.Goals as goal

pub pass_ready-requires-clause-ready : goal.pass_ready-requires-clause-ready
pass_ready-requires-clause-ready c =
    subst (λ (s : State). AtPlace s.cells.rows c.args.place (λ r. Looks s.cells.rows r.key look.Ready)) c.self.view_is c.in-Ready.ensures

pub returns-in_default : goal.returns-in_default
returns-in_default c =
    let sound = subst (λ (x : State). IsSound IsCellLocal x.cells) c.self.view_is c.sound.ensures in
    let h = subst (λ (s : State). AtPlace s.cells.rows c.args.place (λ r. Looks s.cells.rows r.key c.look_at.result)) c.self.view_is c.look_at.ensures in
    record {
      ok = nothing_passes c.args.self.now sound.shaped c.args.place h.0 h.1 c.look_at.result c.in_default.not-Ready h.2;
      same = tt;
      dirty = tt;
    }
