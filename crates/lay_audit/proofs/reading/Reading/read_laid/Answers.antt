use Rattle.std.proofs.Common.{◌+◌, IfSome, sym, subst}
use Rattle.lay_audit.specs.Readings.{IsLaidNext, ReadingValue}
use Rattle.lay_audit.specs.Verdicts.{IsFirstBad}
use Rattle.lay_audit.proofs.ComparedLines.{not_empty}
use Rattle.lay_audit.proofs.Judging.{bad_laid, bad_more}
use Rattle.lay_audit.proofs.reading.Reading.read_laid.Goals as goal

pub returns-in-None : goal.returns-in-None
returns-in-None c = λ basis text is.
    subst (λ (x : ReadingValue). IsFirstBad basis text (x.lines + 1)) (sym c.self.view_is)
    (bad_laid basis text c.args.self.now.lines c.args.self.now.rest c.args.self.now.tree.contexts is
    (λ behind next. (c.in_ok-behind_laid.ensures {u = tt}).none c.in-None.is behind
    (subst (λ k. IsLaidNext k c.self.inside.rest.now behind) (sym c.contexts.ensures)
    (subst (λ (x : ReadingValue). IsLaidNext x.tree.contexts x.rest behind) (sym c.self.view_is) next))))

pub returns-else-is_empty : goal.returns-else-is_empty
returns-else-is_empty c = λ basis text is.
    subst (λ (x : ReadingValue). IsFirstBad basis text (x.lines + 2)) (sym c.self.view_is)
    (bad_more basis text c.args.self.now.lines c.args.self.now.rest c.args.self.now.tree.contexts c.in-Some.rest.now is
    (subst (λ (x : ReadingValue). IsLaidNext x.tree.contexts x.rest c.in-Some.rest.now) c.self.view_is
    (subst (λ k. IsLaidNext k c.self.inside.rest.now c.in-Some.rest.now) c.contexts.ensures
    (subst (λ o. IfSome o (λ x. IsLaidNext c.contexts.result c.self.inside.rest.now x.now)) c.in-Some.is (c.in_ok-behind_laid.ensures {u = tt}).some)))
    (not_empty c.in-Some.rest.now c.is_empty.result c.is_empty.ensures c.if-is_empty.false))
