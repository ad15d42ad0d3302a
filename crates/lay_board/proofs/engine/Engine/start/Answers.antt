use Rattle.std.proofs.Common.{◌≡◌, ap, arith, ◌∙◌, [], length}
use Rattle.lay_board.specs.Cores.{origin_told, origin_with}
use Rattle.lay_board.specs.Rules.{SeatView, maker_view}
use Rattle.lay_board.specs.Passes.{maker_in}
use Rattle.lay_board.proofs.Makings.{is_maker}
use Rattle.lay_board.proofs.engine.Engine.start.Goals as goal

pub invariant_of-closer : goal.invariant_of-closer
invariant_of-closer c =
    let t = c.in_ok-table.ensures in let m = c.make_all-maker.ensures in let s = c.terms-told.ensures in
    let o = origin_with c.args.doc c.args.face.value in
    let first = t.maker ∙ (λ i. (maker_view (origin_with (s.document i) ((s.face ∙ c.deref.ensures) i)) 0 (s.calls i), [])) in
    let last = m.maker o first in
    record {
      me_is = is_maker _ o _ [] last;
      made_is = let e = ap (λ (z : SeatView). (maker_in z).made) last in let l = c.len-made.ensures in let ok = c.args.calls.ok in omega (arith, e, l, ok);
    }

pub returns-clause-passes : goal.returns-clause-passes
returns-clause-passes c =
    let t = c.in_ok-table.ensures in let s = c.terms-told.ensures in
    c.make_all-maker.ensures.passes (origin_with c.args.doc c.args.face.value) (t.maker ∙ (λ i. (maker_view (origin_with (s.document i) ((s.face ∙ c.deref.ensures) i)) 0 (s.calls i), [])))

pub returns-clause-closer : goal.returns-clause-closer
returns-clause-closer c =
    let t = c.in_ok-table.ensures in let m = c.make_all-maker.ensures in let s = c.terms-told.ensures in
    let last = m.maker (origin_with c.args.doc c.args.face.value) (t.maker ∙ (λ i. (maker_view (origin_with (s.document i) ((s.face ∙ c.deref.ensures) i)) 0 (s.calls i), []))) in
    let table = m.table ∙ t.counts.2 in
    let origin = ap (λ (z : SeatView). (maker_in z).origin) last in
    let made : c.len-made.result ≡ length c.args.calls.items = let l = c.len-made.ensures in let ok = c.args.calls.ok in omega (arith, l, ok) in
    λ i. record { table = table i; origin = origin i; made = made i }

pub returns-clause-engine : goal.returns-clause-engine
returns-clause-engine c =
    let s = c.terms-told.ensures in
    ap origin_told c.in_ok-table.ensures.told ∙ (λ i. origin_with (s.document i) ((s.face ∙ c.deref.ensures) i))
