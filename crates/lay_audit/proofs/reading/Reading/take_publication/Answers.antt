use Rattle.std.proofs.Common.{◌+◌, sym, ap, ◌∙◌, subst}
use Rattle.lay_audit.specs.declared.step.Step.TheVariants as step
use Rattle.lay_audit.specs.Lines.{behind_line}
use Rattle.lay_audit.specs.Presents.{IsPresentWithin}
use Rattle.lay_audit.specs.Readings.{IsLayoutOf, ReadingValue}
use Rattle.lay_audit.proofs.Taking.{gets_shorter, moves_as, stays_steady, takes_publication}
use Rattle.lay_audit.proofs.reading.Reading.take_publication.Goals as goal

pub returns-clause-reads : goal.returns-clause-reads
returns-clause-reads c = λ init text.
    takes_publication c.one_solution.ensures c.args.scripts.now c.args.self.now c.pass_line.new.self
    (subst (λ (x : ReadingValue). IsPresentWithin c.args.scripts.now x.present) c.self.view_is c.numbers_fit.ensures)
    (record {
      next = c.requires.next;
      moves = moves_as c.args.scripts.now c.self.inside.present c.args.self.now.present c.take.new.self c.pass_line.new.self.present step.Publish
          (ap (λ (x : ReadingValue). x.present) c.self.view_is) c.pass_line.ensures.present (c.in_ok-take.ensures {u = tt});
      rest = c.pass_line.ensures.rest ∙ ap (λ (x : ReadingValue). behind_line x.rest) c.self.view_is;
      lines = c.pass_line.ensures.lines ∙ ap (λ (x : ReadingValue). x.lines + 1) c.self.view_is;
    })
    init c.args.face.now.value text
    (subst (λ t. IsLayoutOf c.args.self.now.present.document c.args.face.now.value t) (sym c.pass_line.ensures.tree)
    (subst (λ (x : ReadingValue). IsLayoutOf x.present.document c.args.face.now.value c.in_ok-self-inside.field-0) c.self.view_is
    (subst (λ d. IsLayoutOf d c.args.face.now.value c.in_ok-self-inside.field-0) c.doc.ensures (c.in_ok-self-inside.ensures {u = tt}))))

pub returns-clause-steady : goal.returns-clause-steady
returns-clause-steady c =
    stays_steady c.args.scripts.now c.args.self.now c.pass_line.new.self step.Publish
    (record {
      next = c.requires.next;
      moves = moves_as c.args.scripts.now c.self.inside.present c.args.self.now.present c.take.new.self c.pass_line.new.self.present step.Publish
          (ap (λ (x : ReadingValue). x.present) c.self.view_is) c.pass_line.ensures.present (c.in_ok-take.ensures {u = tt});
      rest = c.pass_line.ensures.rest ∙ ap (λ (x : ReadingValue). behind_line x.rest) c.self.view_is;
      lines = c.pass_line.ensures.lines ∙ ap (λ (x : ReadingValue). x.lines + 1) c.self.view_is;
    })
    c.requires.steady

pub returns-clause-shorter : goal.returns-clause-shorter
returns-clause-shorter c =
    gets_shorter c.args.scripts.now c.args.self.now c.pass_line.new.self step.Publish
    (record {
      next = c.requires.next;
      moves = moves_as c.args.scripts.now c.self.inside.present c.args.self.now.present c.take.new.self c.pass_line.new.self.present step.Publish
          (ap (λ (x : ReadingValue). x.present) c.self.view_is) c.pass_line.ensures.present (c.in_ok-take.ensures {u = tt});
      rest = c.pass_line.ensures.rest ∙ ap (λ (x : ReadingValue). behind_line x.rest) c.self.view_is;
      lines = c.pass_line.ensures.lines ∙ ap (λ (x : ReadingValue). x.lines + 1) c.self.view_is;
    })
