use Rattle.std.proofs.Common.{◌≡◌, None, arith, subst}
use Rattle.lay_history.specs.Edits.EditLists.{first}
use Rattle.lay_history.proofs.EditsLemmas.Lists.{alone_is_first}
use Rattle.lay_history.proofs.edits.checking.check_all.Goals as goal

pub returns-then-list-eq1-clause-answer : goal.returns-then-list-eq1-clause-answer
returns-then-list-eq1-clause-answer c =
    subst (λ es. first c.args.doc.now es ≡ None) c.as_slice-list.ensures.edits
    (alone_is_first c.args.doc.now c.as_slice-list.result.now (omega (arith, c.if-list-eq1.true)) c.in_ok-check_first.ensures.ok)
