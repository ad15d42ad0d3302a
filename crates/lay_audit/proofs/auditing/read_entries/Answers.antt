use Rattle.std.proofs.Common.{subst}
use Rattle.lay_audit.specs.Readings.{ReadsTo, basis_of}
use Rattle.lay_audit.proofs.auditing.read_entries.Goals as goal

pub returns-in-Bad-clause-bad : goal.returns-in-Bad-clause-bad
returns-in-Bad-clause-bad c = λ init text is.
    subst (λ n. ReadsTo (basis_of init c.args.face.now.value c.args.scripts.now) text c.read_next.new.self n) c.in-Bad.is
    ((c.in_ok-read_next.ensures {u = tt}).reads init text (c.loop-number.invariant.read init text is))

pub returns-in-NoEntry-clause-read : goal.returns-in-NoEntry-clause-read
returns-in-NoEntry-clause-read c = λ init text is.
    subst (λ n. ReadsTo (basis_of init c.args.face.now.value c.args.scripts.now) text c.read_next.new.self n) c.in-NoEntry.is
    ((c.in_ok-read_next.ensures {u = tt}).reads init text (c.loop-number.invariant.read init text is))
