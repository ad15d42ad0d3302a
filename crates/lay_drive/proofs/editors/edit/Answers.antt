use Rattle.std.proofs.Common.{◌≡◌, ◌∷◌, ◌++◌, [], ap, sym, arith, length, append_assoc, ◌∙◌}
use Rattle.std.specs.Vec.Iter.{into_iter_items}
use Rattle.lay_drive.proofs.Calling.{one_more}
use Rattle.lay_drive.proofs.editors.edit.Goals as goal

pub loop-command-preserved : goal.loop-command-preserved
loop-command-preserved g c =
    let at = c.loop-command in
    let rest = into_iter_items c.next.new.self in
    let steps : into_iter_items at.command-iterator ≡ c.in-Some.command ∷ rest = c.in-Some.ensures.steps.0 in (
      one_more c.args.job.pass at.pass c.call-pass.result at.yielded c.in-Some.command at.invariant.0 c.call-pass.ensures,
      append_assoc at.yielded (c.in-Some.command ∷ []) rest ∙ ap (λ l. at.yielded ++ l) (sym steps) ∙ at.invariant.1,
      (let count = at.invariant.2 in let gone = c.in-Some.ensures.steps.1 in let short = ap length steps in omega arith),
    )
