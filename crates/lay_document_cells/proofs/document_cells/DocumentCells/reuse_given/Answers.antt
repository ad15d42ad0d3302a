use Rattle.std.proofs.Common.{subst, sym}
use Rattle.lay_cells.specs.Looks.{Looks}
use Rattle.lay_cells.specs.Places.{AtPlace}
use Rattle.lay_cells.specs.declared.answers.Claimed.TheVariants.{Reused}
use Rattle.lay_cells.specs.declared.answers.Look.TheVariants as look
use Rattle.lay_document_cells.specs.State.{State}
use Rattle.lay_document_cells.specs.Unchanged.{CanReuseGiven}
use Rattle.lay_document_cells.proofs.KeptSteps.{claim_kept, no_grant}
use Rattle.lay_document_cells.proofs.KnownSteps.{claim_known}
use Rattle.lay_document_cells.proofs.ReusedCells.{reused_claims, reused_given, reused_to}
use Rattle.lay_document_cells.proofs.document_cells.DocumentCells.reuse_given.Goals as goal

pub reuse_at-requires-clause-ready : goal.reuse_at-requires-clause-ready
reuse_at-requires-clause-ready c _ =
    subst (λ (s : State). AtPlace s.cells.rows c.args.place (λ r. Looks s.cells.rows r.key look.Ready)) (sym c.self.view_is) c.requires.ready

pub reuse_at-requires-clause-can : goal.reuse_at-requires-clause-can
reuse_at-requires-clause-can c _ =
    let h = subst (λ (s : State). AtPlace s.cells.rows c.args.place (λ r. CanReuseGiven s r)) (sym c.self.view_is) c.requires.can in
    (h.0, h.1, h.2.can)

pub invariant_of-self : goal.invariant_of-self
invariant_of-self c =
    let kept = c.self.invariant.kept in
    let sound = kept.cells.cells.sound in
    let h = c.reuse_at.ensures in
    let claims =
    reused_claims c.self.inside.doc c.self.inside.face.value c.self.inside.cells c.self.inside.laid c.args.self.now c.self.view_is sound c.args.place c.requires.can
    c.reuse_at.new.self h in
    let given =
    reused_given c.self.inside.doc c.self.inside.face.value c.self.inside.cells c.self.inside.laid c.args.self.now c.self.view_is sound c.args.place c.requires.can
    c.reuse_at.new.self h in
    record {
      kept = claim_kept c.self.inside.doc c.self.inside.face.value c.self.inside.cells c.self.inside.laid c.claims_keep_cells.ensures c.claims_count.ensures
          c.one_style_column.ensures c.one_context_list.ensures c.one_formatting_context_list.ensures c.args.self.now c.self.view_is c.self.inside.medium c.self.inside.table
          kept c.args.place h.2.input Reused c.reuse_at.new.self c.self.inside.laid given claims c.sound.ensures
          (no_grant c.self.inside.laid Reused (λ n e. absurd cc));
      known = claim_known c.self.inside.medium c.self.inside.table.lists.contexts c.self.inside.cells c.reuse_at.new.self c.self.inside.since
          c.self.invariant.known c.claims_keep_since.ensures c.args.place h.2.input Reused claims;
    }

pub returns : goal.returns
returns c =
    reused_to c.self.inside.doc c.self.inside.face.value c.self.inside.cells c.self.inside.laid c.args.self.now c.self.view_is c.self.invariant.kept.cells.cells.sound
    c.args.place c.requires.can c.reuse_at.new.self c.reuse_at.ensures c.requires.ready
