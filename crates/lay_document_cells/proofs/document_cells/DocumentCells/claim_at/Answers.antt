use Rattle.std.proofs.Common.{refl, subst}
use Rattle.lay_cells.specs.Looks.{Looks}
use Rattle.lay_cells.specs.Places.{AtPlace}
use Rattle.lay_cells.specs.declared.answers.Look.TheVariants as look
use Rattle.lay_document_cells.specs.State.{State}
use Rattle.lay_document_cells.proofs.document_cells.DocumentCells.claim_at.Goals as goal

pub claim_ready-requires : goal.claim_ready-requires
claim_ready-requires c = record {
  ready = subst (λ (s : State). AtPlace s.cells.rows c.args.place (λ r. Looks s.cells.rows r.key look.Ready)) c.self.view_is c.in-Ready.ensures;
}

pub returns-in-Gone : goal.returns-in-Gone
returns-in-Gone c =
    let h = subst (λ (s : State). AtPlace s.cells.rows c.args.place (λ r. Looks s.cells.rows r.key look.Gone)) c.self.view_is c.in-Gone.ensures in
    record { answers = (h.0, h.1, (h.2, refl)) }

pub returns-in-Waiting : goal.returns-in-Waiting
returns-in-Waiting c =
    let h = subst (λ (s : State). AtPlace s.cells.rows c.args.place (λ r. Looks s.cells.rows r.key (look.Waiting c.in-Waiting.need))) c.self.view_is c.in-Waiting.ensures in
    record { answers = (h.0, h.1, (h.2, refl)) }
