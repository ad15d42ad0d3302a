use Rattle.std.proofs.Common.{subst, sym}
use Rattle.std.specs.Arc.{arc_value}
use Rattle.lay_cells.specs.Looks.{IsGone, Looks}
use Rattle.lay_cells.specs.Places.{AtPlace}
use Rattle.lay_cells.specs.declared.answers.Look.TheVariants as look
use Rattle.lay_document_cells.specs.State.{State}
use Rattle.std.proofs.Common.{ap, arith, ◌+◌}
use Rattle.lay_cells.specs.declared.answers.Claimed.{Claimed}
use Rattle.lay_cells.specs.Progress.Grants.{grants}
use Rattle.lay_document_cells.proofs.KnownSteps.{claim_known}
use Rattle.lay_document_cells.proofs.KeptSteps.{claim_kept, claimed_to, no_grant}
use Rattle.lay_document_cells.proofs.document_cells.DocumentCells.claim_input.Goals as goal

pub claim_at_place-answer-requires-clause-ready : goal.claim_at_place-answer-requires-clause-ready
claim_at_place-answer-requires-clause-ready c _ =
    subst (λ (s : State). AtPlace s.cells.rows c.args.place (λ r. Looks s.cells.rows r.key look.Ready)) (sym c.self.view_is) c.requires.ready

pub invariant_of-self : goal.invariant_of-self
invariant_of-self c =
    let one = ap grants c.in-Granted.is in
    record {
      kept = claim_kept c.self.inside.doc c.self.inside.face.value c.self.inside.cells c.self.inside.laid c.claims_keep_cells.ensures c.claims_count.ensures
          c.one_style_column.ensures c.one_context_list.ensures c.one_formatting_context_list.ensures c.args.self.now c.self.view_is c.self.inside.medium c.self.inside.table
          c.self.invariant.kept c.args.place (arc_value c.args.input) c.claim_at_place-answer.result c.claim_at_place-answer.new.self (c.self.inside.laid + 1)
          c.requires.given c.claim_at_place-answer.ensures c.sound.ensures (omega (arith, one));
      known = claim_known c.self.inside.medium c.self.inside.table.lists.contexts c.self.inside.cells c.claim_at_place-answer.new.self c.self.inside.since
          c.self.invariant.known c.claims_keep_since.ensures c.args.place (arc_value c.args.input) c.claim_at_place-answer.result c.claim_at_place-answer.ensures;
    }

pub invariant_of-self-in_default : goal.invariant_of-self-in_default
invariant_of-self-in_default c = record {
  kept = claim_kept c.self.inside.doc c.self.inside.face.value c.self.inside.cells c.self.inside.laid c.claims_keep_cells.ensures c.claims_count.ensures
      c.one_style_column.ensures c.one_context_list.ensures c.one_formatting_context_list.ensures c.args.self.now c.self.view_is c.self.inside.medium c.self.inside.table
      c.self.invariant.kept c.args.place (arc_value c.args.input) c.claim_at_place-answer.result c.claim_at_place-answer.new.self c.self.inside.laid
      c.requires.given c.claim_at_place-answer.ensures c.sound.ensures (no_grant c.self.inside.laid c.claim_at_place-answer.result c.in_default.not-Granted);
  known = claim_known c.self.inside.medium c.self.inside.table.lists.contexts c.self.inside.cells c.claim_at_place-answer.new.self c.self.inside.since
      c.self.invariant.known c.claims_keep_since.ensures c.args.place (arc_value c.args.input) c.claim_at_place-answer.result c.claim_at_place-answer.ensures;
}

pub returns-in-Granted : goal.returns-in-Granted
returns-in-Granted c =
    let one = ap grants c.in-Granted.is in
    claimed_to c.self.inside.doc c.self.inside.face.value c.self.inside.cells c.self.inside.laid c.args.self.now c.self.view_is c.args.place (arc_value c.args.input)
    c.claim_at_place-answer.result c.claim_at_place-answer.new.self (c.self.inside.laid + 1) c.requires.ready c.requires.given c.claim_at_place-answer.ensures (omega (arith, one))

pub returns-in_default : goal.returns-in_default
returns-in_default c =
    claimed_to c.self.inside.doc c.self.inside.face.value c.self.inside.cells c.self.inside.laid c.args.self.now c.self.view_is c.args.place (arc_value c.args.input)
    c.claim_at_place-answer.result c.claim_at_place-answer.new.self c.self.inside.laid c.requires.ready c.requires.given c.claim_at_place-answer.ensures
    (no_grant c.self.inside.laid c.claim_at_place-answer.result c.in_default.not-Granted)
