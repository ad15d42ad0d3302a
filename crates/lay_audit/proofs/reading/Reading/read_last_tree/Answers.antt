use Rattle.std.proofs.Common.{◌≡◌, ◌+◌, List, ℕ, [], length, sym, ap, subst, arith}
use Rattle.lay_audit.specs.LegalReports.{Basis}
use Rattle.lay_audit.specs.Verdicts.{IsFirstBad, IsVerdict}
use Rattle.lay_audit.proofs.Rooms.{front_room, parts_room}
use Rattle.lay_audit.specs.Readings.{IsAtEnd, IsFrontOf, PartsFrom, ReadingValue}
use Rattle.lay_audit.proofs.Judging.{bad_last, reads_last}
use Rattle.lay_audit.proofs.Taking.{if_verdict}
use Rattle.lay_audit.proofs.reading.Reading.read_last_tree.Goals as goal

pub overflow_add-self : goal.overflow_add-self
overflow_add-self c =
    let l : c.self.inside.lines ≡ c.args.self.now.lines = ap (λ (x : ReadingValue). x.lines) c.self.view_is in
    let n : length c.self.inside.rest.now ≡ length c.args.self.now.rest = ap (λ (x : ReadingValue). length x.rest) c.self.view_is in
    let f = front_room c.text.result.now c.self.inside.rest.now c.in-Ok.lines c.in-Ok.rest.now (c.in-Ok.ensures {u = tt}).ok in
    let q = c.requires in omega (arith, l, n, f, q)

pub read_laid-requires : goal.read_laid-requires
read_laid-requires c =
    let l : c.self.inside.lines ≡ c.args.self.now.lines = ap (λ (x : ReadingValue). x.lines) c.self.view_is in
    let n : length c.self.inside.rest.now ≡ length c.args.self.now.rest = ap (λ (x : ReadingValue). length x.rest) c.self.view_is in
    let f = front_room c.text.result.now c.self.inside.rest.now c.in-Ok.lines c.in-Ok.rest.now (c.in-Ok.ensures {u = tt}).ok in
    let q = c.requires in omega (arith, l, n, f, q)

pub overflow_add-result : goal.overflow_add-result
overflow_add-result c =
    let l : c.self.inside.lines ≡ c.args.self.now.lines = ap (λ (x : ReadingValue). x.lines) c.self.view_is in
    let n : length c.self.inside.rest.now ≡ length c.args.self.now.rest = ap (λ (x : ReadingValue). length x.rest) c.self.view_is in
    let f = parts_room c.text.result.now c.self.inside.rest.now c.in-Err.lines (c.in-Err.ensures {u = tt}).err in
    let q = c.requires in omega (arith, l, n, f, q)

pub overflow_add-result-in-Err : goal.overflow_add-result-in-Err
overflow_add-result-in-Err c =
    let l : c.self.inside.lines ≡ c.args.self.now.lines = ap (λ (x : ReadingValue). x.lines) c.self.view_is in
    let n : length c.self.inside.rest.now ≡ length c.args.self.now.rest = ap (λ (x : ReadingValue). length x.rest) c.self.view_is in
    let f = parts_room c.text.result.now c.self.inside.rest.now c.in-Err.lines (c.in-Err.ensures {u = tt}).err in
    let q = c.requires in omega (arith, l, n, f, q)

pub returns-in-Ok : goal.returns-in-Ok
returns-in-Ok c =
    if_verdict c.read_laid.result
    (λ v. (basis : Basis) (text : List ℕ) → IsAtEnd basis text (c.self.inside.lines + c.in-Ok.lines) c.in-Ok.rest.now c.self.inside.tree.contexts [] → IsVerdict basis text v)
    (λ v. (basis : Basis) (text : List ℕ) → IsAtEnd basis text c.args.self.now.lines c.args.self.now.rest c.args.self.now.tree.contexts c.args.self.now.tree.text → IsVerdict basis text v)
    c.read_laid.ensures
    (λ v f basis text is. f basis text
    (subst (λ (x : ReadingValue). IsAtEnd basis text (x.lines + c.in-Ok.lines) c.in-Ok.rest.now x.tree.contexts []) (sym c.self.view_is)
    (reads_last basis text c.args.self.now.lines c.args.self.now.rest c.in-Ok.rest.now c.args.self.now.tree.contexts c.args.self.now.tree.text c.in-Ok.lines is
    (subst (λ (x : ReadingValue). IsFrontOf x.tree.text x.rest c.in-Ok.lines c.in-Ok.rest.now) c.self.view_is
    (subst (λ w. IsFrontOf w c.self.inside.rest.now c.in-Ok.lines c.in-Ok.rest.now) c.text.ensures.value (c.in-Ok.ensures {u = tt}).ok)))))

pub returns-in-Err : goal.returns-in-Err
returns-in-Err c = λ basis text is.
    subst (λ (x : ReadingValue). IsFirstBad basis text (x.lines + c.in-Err.lines + 1)) (sym c.self.view_is)
    (bad_last basis text c.args.self.now.lines c.args.self.now.rest c.args.self.now.tree.contexts c.args.self.now.tree.text c.in-Err.lines is
    (subst (λ (x : ReadingValue). PartsFrom x.tree.text x.rest c.in-Err.lines) c.self.view_is
    (subst (λ w. PartsFrom w c.self.inside.rest.now c.in-Err.lines) c.text.ensures.value (c.in-Err.ensures {u = tt}).err)))
