use Rattle.std.proofs.Common.{rules, slice_index, arith}
use Rattle.lay_contexts.specs.Homes.{AreHomes}
use Rattle.lay_contexts.proofs.NearestRoots.{home_within}
use Rattle.lay_contexts.proofs.parting.Parting.new.Goals as goal

pub ranks-requires : goal.ranks-requires
ranks-requires c k lt =
    let found : AreHomes c.args.boxes.now c.deref.result.now = search rules in
    let low = home_within c.args.boxes.now c.requires.are.tree k (slice_index c.deref.result.now k) (omega (arith, lt, found.count)) (found.each k (omega (arith, lt, found.count))) in
    omega (arith, low, found.count)
