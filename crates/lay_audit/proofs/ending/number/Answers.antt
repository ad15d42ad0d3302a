use Rattle.std.proofs.Common.{Err, sym, subst}
use Rattle.std.specs.Str.{IsUtf8}
use Rattle.lay_audit.proofs.Numbers.{decimal_utf8, read_back, read_ok}
use Rattle.lay_audit.proofs.ending.number.Goals as goal

pub returns-in-Ok-parse : goal.returns-in-Ok-parse
returns-in-Ok-parse c = λ n small e.
    let is = rw c.in-Ok.ensures.cases.0 at c.parse.ensures.value.0 in
    read_ok n c.in-Ok-parse.n c.args.digits.now c.parse.result c.in-Ok-parse.is small e is

pub returns-in-Err-parse : goal.returns-in-Err-parse
returns-in-Err-parse c = λ n small e.
    let is = rw (c.in-Err-parse.is, c.in-Ok.ensures.cases.0) at c.parse.ensures.value.0 in
    let q = read_back n c.args.digits.now (Err c.in-Err-parse.field-0) small e is in cc

pub returns-in-Err : goal.returns-in-Err
returns-in-Err c = λ n small e. absurd (c.in-Err.ensures.cases.0 (subst IsUtf8 (sym e) (decimal_utf8 n small)))
