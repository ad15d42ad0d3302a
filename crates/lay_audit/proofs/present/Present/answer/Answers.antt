use Rattle.std.proofs.Common.{sym, subst, arith, OnOk}
use Rattle.lay_history.specs.declared.edits.history.Entry.{Entry}
use Rattle.lay_audit.specs.declared.step.Step.TheVariants as step
use Rattle.lay_audit.specs.Presents.{IsStep, Moves}
use Rattle.lay_audit.proofs.Answering.{answer_index, answer_place}
use Rattle.lay_audit.proofs.present.Present.answer.Goals as goal

pub count_answer-requires : goal.count_answer-requires
count_answer-requires c =
    let a = answer_place c.args.scripts.now c.args.self.now c.args.place c.args.reply c.requires.is.0 c.requires.is.1 in
    let b = c.requires.editors in
    record {
      place = omega (arith, a, b);
      some = answer_index c.args.scripts.now c.args.self.now c.args.place c.args.reply c.requires.is.0 c.requires.is.1;
      editors = c.requires.editors;
    }

pub returns-in-Accepted : goal.returns-in-Accepted
returns-in-Accepted c =
    subst (λ r. OnOk c.answer_accepted.result ((e : Entry) → IsStep c.args.scripts.now c.args.self.now (step.Answer c.args.place r) e
    → Moves c.args.self.now (step.Answer c.args.place r) e c.answer_accepted.new.self)) (sym c.in-Accepted.is) c.answer_accepted.ensures
