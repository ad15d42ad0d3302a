use Rattle.std.proofs.Common.{rules, ◌≡◌, ◌++◌, ◌∷◌, []}
use Rattle.lay_contexts.proofs.NearestRoots.{one_more}
use Rattle.lay_contexts.proofs.homes.homes.Goals as goal

pub loop-k-preserved : goal.loop-k-preserved
loop-k-preserved c =
    let pushed : c.push.new.self.items ≡ c.loop-k.homes.items ++ c.home-home.result ∷ [] = search rules in
    rw pushed (one_more c.args.boxes.now c.loop-k.homes.items c.loop-k.k c.home-home.result c.loop-k.invariant c.home-home.ensures)
