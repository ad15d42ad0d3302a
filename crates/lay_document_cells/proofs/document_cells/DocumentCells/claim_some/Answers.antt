use Rattle.std.proofs.Common.{ap, arith, inl, length, refl, subst, sym, ◌∙◌}
use Rattle.lay_cells.specs.Sound.{IsSound}
use Rattle.lay_cell_work.specs.CellLocal.{IsCellLocal}
use Rattle.lay_cell_work.specs.ClaimLists.ClaimLists.{ClaimList}
use Rattle.lay_document_cells.specs.Batches.{Grants, more, start}
use Rattle.lay_document_cells.specs.State.{State}
use Rattle.lay_document_cells.proofs.Batching.{claims_end, claims_full, grants_none, push_length}
use Rattle.lay_document_cells.proofs.SettledPlaces.{few_rows}
use Rattle.lay_document_cells.proofs.WalkSteps.{draws_few, draws_on}
use Rattle.lay_document_cells.proofs.document_cells.DocumentCells.claim_some.Goals as goal

pub loop-turn-init : goal.loop-turn-init
loop-turn-init c = record {
  grants = subst (λ cs. Grants c.args.self.now cs c.args.self.now) (sym c.requires.empty) start;
  count = ap length c.requires.empty;
  room = refl;
  walked = c.first_walk-walk.ensures;
  draws = inl refl;
  rows = refl;
  end = omega arith;
}

pub returns-in_default : goal.returns-in_default
returns-in_default c =
    let was = c.loop-turn.invariant in
    let sound = subst (λ (x : State). IsSound IsCellLocal x.cells) c.self.view_is c.sound.ensures in
    let few = few_rows c.args.self.now.cells.rows sound.shaped in
    let count = c.claim_behind.ensures.count ∙ was.rows in
    let within = c.claim_behind.ensures.walked.within in
    let long = was.count in
    record {
      answers = claims_end c.args.self.now c.loop-turn.self c.claim_behind.new.self c.args.limit c.loop-turn.list.claims c.claim_behind.result c.batch_end.result
          (omega (arith, long, c.loop-turn-test.true)) was.grants
          (grants_none c.loop-turn.self c.claim_behind.new.self c.claim_behind.result c.claim_behind.ensures.answers c.in_default.not-Granted)
          (λ e. c.batch_end.ensures.none (omega (arith, long, e))) (λ some. c.batch_end.ensures.some (omega (arith, long, some)));
      room = was.room;
      draws = draws_few c.args.self.now c.claim_behind.new.self 0 c.claim_behind.new.walk.place (omega (arith, few, count, within))
          (draws_on c.args.self.now c.loop-turn.self c.claim_behind.new.self c.loop-turn.walk.place c.claim_behind.new.walk.place c.claim_behind.ensures.further
          was.draws c.claim_behind.ensures.draws);
    }

pub loop-turn-preserved : goal.loop-turn-preserved
loop-turn-preserved c =
    let was = c.loop-turn.invariant in
    record {
      grants = subst (λ (x : ClaimList). Grants c.args.self.now x.claims c.claim_behind.new.self) (sym c.push.ensures)
          (more c.loop-turn.list.claims c.in-Granted.claim c.loop-turn.self c.claim_behind.new.self was.grants c.in-Granted.ensures.answers);
      count = ap (λ (x : ClaimList). length x.claims) c.push.ensures ∙ push_length c.loop-turn.list.claims c.in-Granted.claim c.loop-turn.turn was.count;
      room = ap (λ (x : ClaimList). x.room) c.push.ensures ∙ was.room;
      walked = c.claim_behind.ensures.walked;
      draws = draws_on c.args.self.now c.loop-turn.self c.claim_behind.new.self c.loop-turn.walk.place c.claim_behind.new.walk.place c.claim_behind.ensures.further
          was.draws c.claim_behind.ensures.draws;
      rows = c.claim_behind.ensures.count ∙ was.rows;
      end = omega (arith, c.loop-turn-test.true);
    }

pub returns-clause-answers : goal.returns-clause-answers
returns-clause-answers c =
    let was = c.loop-turn.invariant in
    let end = was.end in
    claims_full c.args.self.now c.loop-turn.self c.args.limit c.loop-turn.turn c.loop-turn.list.claims was.grants was.count
    (omega (arith, c.loop-turn-test.false, end))
