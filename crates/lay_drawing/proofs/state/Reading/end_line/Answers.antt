use Rattle.std.proofs.Common.{sym, ◌∙◌, refl}
use Rattle.lay_drawing.proofs.ByteSteps.{ends_line, ends_badly, never_read, cant_add}
use Rattle.lay_drawing.proofs.state.Reading.end_line.Goals as goal

pub returns-in_default-line-clause-err : goal.returns-in_default-line-clause-err
returns-in_default-line-clause-err c =
    let v = rw c.deref.ensures.value at (c.in-Ok.ensures {u = tt}).value in
    ends_badly c.args.self.now c.bad_line.result (never_read c.args.self.now (sym v ∙ c.in_default-line.is)) c.bad_line.ensures

pub returns-in-Ok-add-clause-ok : goal.returns-in-Ok-add-clause-ok
returns-in-Ok-add-clause-ok c =
    let v = rw c.deref.ensures.value at (c.in-Ok.ensures {u = tt}).value in
    ends_line c.args.self.now c.add.new.self _ c.in-Some.line (sym v ∙ c.in-Some.is) (c.in-Ok-add.ensures {u = tt}).ok refl refl refl refl refl refl c.clear.ensures.items

pub returns-in-Err-clause-err : goal.returns-in-Err-clause-err
returns-in-Err-clause-err c =
    let v = rw c.deref.ensures.value at (c.in-Ok.ensures {u = tt}).value in
    cant_add c.args.self.now c.in-Some.line c.in-Err.stop (sym v ∙ c.in-Some.is) (c.in-Err.ensures {u = tt}).err
