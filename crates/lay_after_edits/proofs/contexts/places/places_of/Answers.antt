use Rattle.std.proofs.Common.{◌≡◌, ◌++◌, ◌∷◌, []}
use Rattle.lay_after_edits.proofs.ContextsLemmas.ElementPlaces.{one-more-place}
use Rattle.lay_after_edits.proofs.contexts.places.places_of.Goals as goal

pub loop-i-preserved : goal.loop-i-preserved
loop-i-preserved c =
    let pushed : c.push.new.self.items ≡ c.loop-i.places.items ++ c.place_of.result ∷ [] = (c.in_ok-push.ensures {u = tt}).items in
    rw pushed (one-more-place c.args.contexts.now c.loop-i.places.items c.place_of.result c.loop-i.i c.loop-i.invariant c.place_of.ensures)
