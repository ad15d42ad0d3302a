use Rattle.std.proofs.Common.{◌≡◌, ◌+◌, [], ◌∷◌, ◌++◌, length, length-append, arith}
use Rattle.lay_placements.specs.Standings.{IsStandingNear, no_standing}
use Rattle.lay_table.proofs.ColumnEntries.{one_more}
use Rattle.lay_table.specs.TableStandings.{group_or_none}
use Rattle.lay_table.proofs.standings.groups_or_none.Goals as goal

pub loop-k-preserved : goal.loop-k-preserved
loop-k-preserved c =
    let pushed = (c.in_ok-push.ensures {u = tt}).items in
    let found = c.in_ok-group_or_none.ensures {u = tt} in
    let inv = c.loop-k.invariant in
    let counted : length (c.loop-k.standings.items ++ c.in_ok-group_or_none.field-0 ∷ []) ≡ c.loop-k.k + 1 = (let e = inv.count in rw (length-append, e) (omega arith)) in
    rw pushed (record {
      count = counted;
      each = one_more (λ j s. s ≡ group_or_none c.args.input.now c.args.places.now j) no_standing c.loop-k.standings.items c.in_ok-group_or_none.field-0 c.loop-k.k inv.count inv.each found.standing;
      near = λ k less. one_more (λ j s. IsStandingNear s) no_standing c.loop-k.standings.items c.in_ok-group_or_none.field-0 c.loop-k.k inv.count (λ j low. inv.near j (omega (arith, low, inv.count))) found.near k (omega (arith, less, counted));
    })
