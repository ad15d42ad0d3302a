use Rattle.std.proofs.Common.{◌≡◌, ◌+◌, length, Some, sym, ap, subst, arith}
use Rattle.lay_audit.specs.Verdicts.{IsFirstBad}
use Rattle.lay_audit.proofs.Rooms.{front_room, parts_room}
use Rattle.lay_audit.specs.Readings.{HasLayout, IsFrontOf, PartsFrom, ReadingValue, basis_of}
use Rattle.lay_audit.proofs.Judging.{bad_shown, reads_shown}
use Rattle.lay_audit.proofs.reading.Reading.read_tree.Goals as goal

pub overflow_add-self : goal.overflow_add-self
overflow_add-self c =
    let l : c.self.inside.lines ≡ c.args.self.now.lines = ap (λ (x : ReadingValue). x.lines) c.self.view_is in
    let n : length c.self.inside.rest.now ≡ length c.args.self.now.rest = ap (λ (x : ReadingValue). length x.rest) c.self.view_is in
    let f = front_room c.text.result.now c.self.inside.rest.now c.in-Ok.lines c.in-Ok.rest.now (c.in-Ok.ensures {u = tt}).ok in
    let q = c.requires.room in omega (arith, l, n, f, q)

pub overflow_add-result : goal.overflow_add-result
overflow_add-result c =
    let l : c.self.inside.lines ≡ c.args.self.now.lines = ap (λ (x : ReadingValue). x.lines) c.self.view_is in
    let n : length c.self.inside.rest.now ≡ length c.args.self.now.rest = ap (λ (x : ReadingValue). length x.rest) c.self.view_is in
    let f = parts_room c.text.result.now c.self.inside.rest.now c.in-Err.lines (c.in-Err.ensures {u = tt}).err in
    let q = c.requires.room in omega (arith, l, n, f, q)

pub overflow_add-result-in-Err : goal.overflow_add-result-in-Err
overflow_add-result-in-Err c =
    let l : c.self.inside.lines ≡ c.args.self.now.lines = ap (λ (x : ReadingValue). x.lines) c.self.view_is in
    let n : length c.self.inside.rest.now ≡ length c.args.self.now.rest = ap (λ (x : ReadingValue). length x.rest) c.self.view_is in
    let f = parts_room c.text.result.now c.self.inside.rest.now c.in-Err.lines (c.in-Err.ensures {u = tt}).err in
    let q = c.requires.room in omega (arith, l, n, f, q)

pub returns-in-Ok-clause-reads : goal.returns-in-Ok-clause-reads
returns-in-Ok-clause-reads c = λ init scripts text is.
    reads_shown (basis_of init c.args.face.now.value scripts) text c.args.self.now _ c.in-Ok.lines is
    (subst (λ (x : ReadingValue). IsFrontOf x.tree.text x.rest c.in-Ok.lines c.in-Ok.rest.now) c.self.view_is
    (subst (λ w. IsFrontOf w c.self.inside.rest.now c.in-Ok.lines c.in-Ok.rest.now) c.text.ensures.value (c.in-Ok.ensures {u = tt}).ok))
    (ap (λ (x : ReadingValue). x.lines + c.in-Ok.lines) c.self.view_is)
    (ap (λ (x : ReadingValue). x.present) c.self.view_is) (ap (λ (x : ReadingValue). x.tree) c.self.view_is)

pub returns-in-Ok-clause-room : goal.returns-in-Ok-clause-room
returns-in-Ok-clause-room c =
    let l : c.self.inside.lines ≡ c.args.self.now.lines = ap (λ (x : ReadingValue). x.lines) c.self.view_is in
    let n : length c.self.inside.rest.now ≡ length c.args.self.now.rest = ap (λ (x : ReadingValue). length x.rest) c.self.view_is in
    let f = front_room c.text.result.now c.self.inside.rest.now c.in-Ok.lines c.in-Ok.rest.now (c.in-Ok.ensures {u = tt}).ok in
    omega (arith, l, n, f)

pub returns-in_ok-can_complete-in-Err-clause-reads : goal.returns-in_ok-can_complete-in-Err-clause-reads
returns-in_ok-can_complete-in-Err-clause-reads c = λ init scripts text is.
    subst (λ (x : ReadingValue). IsFirstBad (basis_of init c.args.face.now.value scripts) text (x.lines + c.in-Err.lines + 1)) (sym c.self.view_is)
    (bad_shown c.one_solution.ensures (basis_of init c.args.face.now.value scripts) text c.args.self.now c.in-Err.lines is
    (subst (λ (x : ReadingValue). PartsFrom x.tree.text x.rest c.in-Err.lines) c.self.view_is
    (subst (λ w. PartsFrom w c.self.inside.rest.now c.in-Err.lines) c.text.ensures.value (c.in-Err.ensures {u = tt}).err))
    (subst (λ (x : ReadingValue). (x.present.last ≡ Some x.present.count → ⊥) → HasLayout x.present.document c.args.face.now.value) c.self.view_is
    (c.in_ok-can_complete-in-Err.ensures {u = tt})))
