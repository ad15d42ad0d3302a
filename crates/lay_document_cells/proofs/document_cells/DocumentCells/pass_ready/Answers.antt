use Rattle.std.proofs.Common.{ℕ, ap, subst, sym}
use Rattle.std.proofs.lemmas.Option.{slice_get_within}
use Rattle.std.specs.Arc.{arc_value}
use Rattle.lay_cells.specs.Looks.{Looks}
use Rattle.lay_cells.specs.Places.{AtPlace, IsClaimed}
use Rattle.lay_cells.specs.Sound.{IsSound}
use Rattle.lay_cells.specs.declared.answers.Look.TheVariants as look
use Rattle.lay_cell_work.specs.CellLocal.{IsCellLocal}
use Rattle.lay_document_cells.specs.State.{State}
use Rattle.lay_document_cells.specs.Steps.{ClaimsTo}
use Rattle.lay_document_cells.proofs.Answered.{key_same}
use Rattle.lay_document_cells.proofs.Passing.{claimed_passes, granted_passes, ready_row, reused_passes, taken_passes}
use Rattle.lay_document_cells.proofs.document_cells.DocumentCells.pass_ready.Goals as goal

pub returns-in-Some-clause-ok : goal.returns-in-Some-clause-ok
returns-in-Some-clause-ok c =
    let sound = subst (λ (x : State). IsSound IsCellLocal x.cells) c.self.view_is c.sound.ensures in
    let h = c.requires.ready in
    let q = subst (λ (x : State). AtPlace x.cells.rows c.args.place (λ r. IsClaimed r c.in-Some.number)) c.self.view_is c.in-Some.ensures.some in
    claimed_passes c.args.self.now sound.shaped c.args.place h.0 h.1 c.in-Some.number (ready_row _ sound.shaped c.args.place h.0 h.1 h.2) q.0 q.1 q.2

pub returns-then-can_reuse-clause-ok : goal.returns-then-can_reuse-clause-ok
returns-then-can_reuse-clause-ok c =
    let sound = subst (λ (x : State). IsSound IsCellLocal x.cells) c.self.view_is c.sound.ensures in
    let h = c.reuse_given.ensures in
    reused_passes c.claims_keep_rows.ensures c.args.self.now sound.shaped c.args.place h.0 h.1 c.reuse_given.new.self h.2.input h.2.claims

pub key_at-key-requires-after_bounds : goal.key_at-key-requires-after_bounds
key_at-key-requires-after_bounds c κs =
    let h = subst (λ (x : State). AtPlace x.cells.rows c.args.place (λ r. Looks x.cells.rows r.key look.Ready)) (sym c.self.view_is) c.requires.ready in
    slice_get_within _ c.args.place h.0 h.1

pub returns-in-Granted-clause-ok : goal.returns-in-Granted-clause-ok
returns-in-Granted-clause-ok c =
    let sound = subst (λ (x : State). IsSound IsCellLocal x.cells) c.self.view_is c.sound.ensures in
    let h = c.in_ok-answer.ensures.ok in
    let d = subst (λ a. ClaimsTo c.args.self.now h.0.key (arc_value c.in_ok-answer.input) a c.claim_present.new.self) c.in-Granted.is h.2 in
    granted_passes c.claims_keep_rows.ensures c.args.self.now sound.shaped c.args.place h.0 h.1 c.claim_present.new.self (arc_value c.in_ok-answer.input)
    c.in-Granted.number d (ready_row _ sound.shaped c.args.place h.0 h.1 d.ready) c.key_at-key.result
    (key_same _ c.args.self.now c.self.view_is c.args.place c.key_at-key.result c.key_at-key.ensures h.0 h.1) c.new.result c.new.ensures

pub returns-in-Reused-clause-ok : goal.returns-in-Reused-clause-ok
returns-in-Reused-clause-ok c =
    let sound = subst (λ (x : State). IsSound IsCellLocal x.cells) c.self.view_is c.sound.ensures in
    let h = c.in_ok-answer.ensures.ok in
    let d = subst (λ a. ClaimsTo c.args.self.now h.0.key (arc_value c.in_ok-answer.input) a c.claim_present.new.self) c.in-Reused.is h.2 in
    reused_passes c.claims_keep_rows.ensures c.args.self.now sound.shaped c.args.place h.0 h.1 c.claim_present.new.self (arc_value c.in_ok-answer.input) d

pub returns-in-Taken-clause-ok : goal.returns-in-Taken-clause-ok
returns-in-Taken-clause-ok c =
    let sound = subst (λ (x : State). IsSound IsCellLocal x.cells) c.self.view_is c.sound.ensures in
    let h = c.in_ok-answer.ensures.ok in
    let d = subst (λ a. ClaimsTo c.args.self.now h.0.key (arc_value c.in_ok-answer.input) a c.claim_present.new.self) c.in-Taken.is h.2 in
    taken_passes c.claims_keep_rows.ensures c.args.self.now sound.shaped c.args.place h.0 h.1 c.claim_present.new.self (arc_value c.in_ok-answer.input)
    c.in-Taken.number d (ready_row _ sound.shaped c.args.place h.0 h.1 d.ready)
