use Rattle.std.proofs.Common.{◌≡◌, ◌∷◌, suc, ap, arith, length, subst, ◌∙◌}
use Rattle.std.specs.List.{All}
use Rattle.std.specs.Vec.Iter.{into_iter_items}
use Rattle.lay_pool.specs.Finds.{AreFoundOf}
use Rattle.lay_pool.proofs.notes.note_all.Goals as goal

pub loop-finds-preserved : goal.loop-finds-preserved
loop-finds-preserved c =
    let at = c.loop-finds in
    let was = at.invariant in
    let steps : into_iter_items at.finds-iterator ≡ c.in-Some.finds ∷ into_iter_items c.next.new.self = c.in-Some.ensures.steps.0 in
    let all = subst (All (AreFoundOf c.args.claims.now)) steps was.0 in (
      (λ k d lt. all (suc k) d (omega (arith, lt))),
      (let count = was.1 in let gone = c.in-Some.ensures.steps.1 in let short = ap length steps in omega arith),
      c.note.ensures.notes,
      c.note.ensures.len ∙ was.3,
    )
