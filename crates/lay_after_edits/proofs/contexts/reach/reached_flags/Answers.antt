use Rattle.std.proofs.Common.{◌≡◌, ◌++◌, ◌∷◌, []}
use Rattle.lay_after_edits.proofs.Cited.{not_true}
use Rattle.lay_after_edits.proofs.ContextsLemmas.BuiltSteps.{one-reach-flag}
use Rattle.lay_after_edits.proofs.contexts.reach.reached_flags.Goals as goal

pub loop-i-preserved : goal.loop-i-preserved
loop-i-preserved c =
    let pushed : c.push.new.self.items ≡ c.loop-i.flags.items ++ c.is_reached.result ∷ [] = (c.in_ok-push.ensures {u = tt}).items in
    rw pushed (one-reach-flag c.args.reach c.args.places.now c.loop-i.flags.items c.is_reached.result c.loop-i.i c.loop-i.invariant
    (λ is_not reached. not_true c.is_reached.result is_not (c.is_reached.ensures.1 reached)))
