use Rattle.std.proofs.Common.{◌+◌, ap, ◌∙◌, subst}
use Rattle.lay_audit.specs.declared.step.Step.TheVariants as step
use Rattle.lay_audit.specs.Lines.{behind_line}
use Rattle.lay_audit.specs.Presents.{IsPresentWithin}
use Rattle.lay_audit.specs.Readings.{ReadingValue}
use Rattle.lay_audit.proofs.Taking.{gets_shorter, moves_as, stays_steady, takes_answer}
use Rattle.lay_audit.proofs.reading.Reading.take_answer.Goals as goal

pub returns-clause-reads : goal.returns-clause-reads
returns-clause-reads c =
    takes_answer c.one_solution.ensures c.args.scripts.now c.args.self.now c.pass_line.new.self c.args.place c.args.reply
    (subst (λ (x : ReadingValue). IsPresentWithin c.args.scripts.now x.present) c.self.view_is c.numbers_fit.ensures)
    (record {
      next = c.requires.next;
      moves = moves_as c.args.scripts.now c.self.inside.present c.args.self.now.present c.take.new.self c.pass_line.new.self.present (step.Answer c.args.place c.args.reply)
          (ap (λ (x : ReadingValue). x.present) c.self.view_is) c.pass_line.ensures.present (c.in_ok-take.ensures {u = tt});
      rest = c.pass_line.ensures.rest ∙ ap (λ (x : ReadingValue). behind_line x.rest) c.self.view_is;
      lines = c.pass_line.ensures.lines ∙ ap (λ (x : ReadingValue). x.lines + 1) c.self.view_is;
    })
    (c.pass_line.ensures.tree ∙ ap (λ (x : ReadingValue). x.tree) c.self.view_is)

pub returns-clause-steady : goal.returns-clause-steady
returns-clause-steady c =
    stays_steady c.args.scripts.now c.args.self.now c.pass_line.new.self (step.Answer c.args.place c.args.reply)
    (record {
      next = c.requires.next;
      moves = moves_as c.args.scripts.now c.self.inside.present c.args.self.now.present c.take.new.self c.pass_line.new.self.present (step.Answer c.args.place c.args.reply)
          (ap (λ (x : ReadingValue). x.present) c.self.view_is) c.pass_line.ensures.present (c.in_ok-take.ensures {u = tt});
      rest = c.pass_line.ensures.rest ∙ ap (λ (x : ReadingValue). behind_line x.rest) c.self.view_is;
      lines = c.pass_line.ensures.lines ∙ ap (λ (x : ReadingValue). x.lines + 1) c.self.view_is;
    })
    c.requires.steady

pub returns-clause-shorter : goal.returns-clause-shorter
returns-clause-shorter c =
    gets_shorter c.args.scripts.now c.args.self.now c.pass_line.new.self (step.Answer c.args.place c.args.reply)
    (record {
      next = c.requires.next;
      moves = moves_as c.args.scripts.now c.self.inside.present c.args.self.now.present c.take.new.self c.pass_line.new.self.present (step.Answer c.args.place c.args.reply)
          (ap (λ (x : ReadingValue). x.present) c.self.view_is) c.pass_line.ensures.present (c.in_ok-take.ensures {u = tt});
      rest = c.pass_line.ensures.rest ∙ ap (λ (x : ReadingValue). behind_line x.rest) c.self.view_is;
      lines = c.pass_line.ensures.lines ∙ ap (λ (x : ReadingValue). x.lines + 1) c.self.view_is;
    })
