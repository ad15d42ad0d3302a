use Rattle.std.proofs.Common.{◌≡◌, ap, arith, sym, subst, ◌∙◌, [], ◌∷◌, ◌++◌, length, append_assoc, append-nil}
use Rattle.std.specs.List.{All}
use Rattle.std.specs.Vec.Iter.{into_iter_items}
use Rattle.std.proofs.lemmas.List.{nil_from_length}
use Rattle.std.proofs.lemmas.List.Elements.{All-push}
use Rattle.lay_board.specs.Passes.{IsKnownIn}
use Rattle.lay_board.proofs.closing.meet_all.Goals as goal

pub loop-pass-preserved : goal.loop-pass-preserved
loop-pass-preserved c =
    let at = c.loop-pass in let was = at.invariant in
    let steps : into_iter_items at.pass-iterator ≡ c.in-Some.pass ∷ into_iter_items c.next.new.self = c.in-Some.ensures.steps.0 in (
      c.meet.ensures.table ∙ was.0,
      c.meet.ensures.out,
      append_assoc at.yielded (c.in-Some.pass ∷ []) (into_iter_items c.next.new.self) ∙ ap (λ l. at.yielded ++ l) (sym steps) ∙ was.2,
      (let count = was.3 in let gone = c.in-Some.ensures.steps.1 in let short = ap length steps in omega arith),
      All-push (IsKnownIn c.args.core.now.history) at.yielded c.in-Some.pass was.4 c.meet.ensures.known,
    )

pub returns : goal.returns
returns c =
    let at = c.loop-pass in let was = at.invariant in
    let none = nil_from_length (into_iter_items at.pass-iterator) (sym was.3 ∙ c.in-None.ensures.steps.0) in
    subst (All (IsKnownIn c.args.core.now.history)) (sym (append-nil at.yielded) ∙ ap (λ l. at.yielded ++ l) (sym none) ∙ was.2) was.4
