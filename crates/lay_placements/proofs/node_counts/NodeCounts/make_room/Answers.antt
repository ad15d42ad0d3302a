use Rattle.std.proofs.Common.{◌≡◌, ◌∙◌, sym, ap, List, length, arith, rules}
use Rattle.std.specs.BTreeMap.{btree_map_len}
use Rattle.lay_placements.specs.declared.node_counts.Counts.{Counts}
use Rattle.lay_placements.specs.PieceCounts.{counts_in}
use Rattle.lay_placements.proofs.NodeCountSteps.{blank, none_apart, outside}
use Rattle.lay_placements.proofs.node_counts.NodeCounts.make_room.Goals as goal

pub returns-in_ok-self : goal.returns-in_ok-self
returns-in_ok-self c = λ id.
    let counts = c.args.self.now in
    let bare : length counts.table.items ≡ 0 = search (arith, rules) in
    let none : btree_map_len counts.others ≡ 0 = search (arith, rules) in
    let nothing = none_apart counts.others id none in
    ap (λ (table : List Counts). counts_in counts.first table counts.others id) (c.in_ok-self.ensures.items_if_clones_equal (λ y e. e))
    ∙ (blank counts.span counts.first counts.others id nothing
    ∙ sym (outside counts.others counts.first counts.table.items id (λ place is. omega (arith, bare)) ∙ nothing))
