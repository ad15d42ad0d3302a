use Rattle.std.proofs.Common.{◌≡◌, ap, arith, sym, subst, ◌∙◌, [], ◌∷◌, ◌++◌, length, sum}
use Rattle.std.specs.Vec.Iter.{into_iter_items}
use Rattle.std.proofs.lemmas.List.{nil_from_length}
use Rattle.lay_board.specs.Rules.{maker_view}
use Rattle.lay_board.proofs.Steps.{sum_cons}
use Rattle.lay_board.proofs.Makings.{IsMaking, few_made, made_all, making_more}
use Rattle.lay_board.proofs.starting.make_all.Goals as goal

pub overflow_cast-number : goal.overflow_cast-number
overflow_cast-number c =
    let m = c.requires.maker in let at = c.loop-left in
    let f = few_made _ m.0 _ _ _ _ _ (at.invariant.4 m.0 m.1) in
    let e = c.len.ensures in let ok = at.passes.ok in let sixteen = c.requires.editors in omega (arith, f, e, ok, sixteen)

pub overflow_add-number : goal.overflow_add-number
overflow_add-number c =
    let m = c.requires.maker in let at = c.loop-left in
    let f = few_made _ m.0 _ _ _ _ _ (at.invariant.4 m.0 m.1) in
    let e = c.len.ensures in let ok = at.passes.ok in let sixteen = c.requires.editors in omega (arith, f, e, ok, sixteen)

pub next_pass-requires-clause-maker : goal.next_pass-requires-clause-maker
next_pass-requires-clause-maker c =
    let m = c.requires.maker in let at = c.loop-left in
    let was = at.invariant.4 m.0 m.1 in
    let steps : into_iter_items at.left-iterator ≡ c.in-Some.left ∷ into_iter_items c.next.new.self = c.in-Some.ensures.steps.0 in (
      m.0,
      length at.yielded,
      into_iter_items c.next.new.self,
      was.me_is ∙ ap (λ l. (maker_view m.0 (length at.yielded) l, [])) steps,
      (let e = c.len.ensures in let ok = at.passes.ok in let l = was.made.count in omega (arith, e, ok, l)),
    )

pub push_reserved-requires : goal.push_reserved-requires
push_reserved-requires c =
    let m = c.requires.maker in let at = c.loop-left in
    let f = few_made _ m.0 _ _ _ _ _ (at.invariant.4 m.0 m.1) in
    let short = ap length c.in-Some.ensures.steps.0 in let ok = at.passes.ok in let cap = at.invariant.3 in omega (arith, f, short, ok, cap)

pub loop-left-preserved : goal.loop-left-preserved
loop-left-preserved c =
    let at = c.loop-left in
    let steps : into_iter_items at.left-iterator ≡ c.in-Some.left ∷ into_iter_items c.next.new.self = c.in-Some.ensures.steps.0 in (
      c.next_pass.ensures.table ∙ at.invariant.0,
      (let count = at.invariant.1 in let gone = c.in-Some.ensures.steps.1 in let short = ap length steps in omega arith),
      (let all = at.invariant.2 in let s = ap sum steps in let cons = sum_cons c.in-Some.left (into_iter_items c.next.new.self) in omega (arith, all, s, cons)),
      (let cap = at.invariant.3 in let same = c.push_reserved.ensures.capacity in omega (arith, cap, same)),
      (λ i e.
          let was = subst (λ l. IsMaking c.args.table.now.shared.table_id i c.args.calls.items at.yielded l at.maker.me at.passes.items) steps (at.invariant.4 i e) in
          making_more c.args.table.now.shared.table_id i c.args.calls.items at.yielded (into_iter_items c.next.new.self) c.in-Some.left at.maker.me _ at.passes.items _ was
          (c.next_pass.ensures.maker i (length at.yielded) (into_iter_items c.next.new.self) was.me_is)
          (c.push_reserved.ensures.items ∙ ap (λ p. at.passes.items ++ p ∷ []) (c.next_pass.ensures.pass i (length at.yielded) (into_iter_items c.next.new.self) was.me_is))),
    )

pub returns-clause-maker : goal.returns-clause-maker
returns-clause-maker c i e =
    let at = c.loop-left in
    let none = nil_from_length (into_iter_items at.left-iterator) (sym at.invariant.1 ∙ c.in-None.ensures.steps.0) in
    (made_all _ i _ _ _ _ _ none (at.invariant.4 i e)).me_is

pub returns-clause-passes : goal.returns-clause-passes
returns-clause-passes c i e =
    let at = c.loop-left in
    let none = nil_from_length (into_iter_items at.left-iterator) (sym at.invariant.1 ∙ c.in-None.ensures.steps.0) in
    (made_all c.args.table.now.shared.table_id i _ _ _ _ _ none (at.invariant.4 i e)).made
