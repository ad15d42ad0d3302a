use Rattle.std.proofs.Common.{◌≡◌, ◌≤◌, length, slice_index, ap, sym, ◌∙◌, arith}
use Rattle.lay_contexts.specs.FormattingContextList.{roots_before}
use Rattle.lay_contexts.proofs.RootBoxes.{root_boxes}
use Rattle.lay_contexts.proofs.RootNumbers.{one_root}
use Rattle.lay_contexts.proofs.WholeBoxes.{whole_root}
use Rattle.lay_contexts.proofs.root_boxes.boxes_of_root.Goals as goal

pub returns-then-number-first : goal.returns-then-number-first
returns-then-number-first c =
    let boxes = c.args.boxes.now in
    let parting = c.args.parting.now in
    let all = ap length c.as_slice-all.ensures.boxes in
    let number : c.number.result ≡ slice_index parting.numbers (length boxes) = rw all at c.number.ensures in
    let is = c.requires.parting.numbers.each (length boxes) (omega arith) in
    let few : roots_before boxes (length boxes) ≤ 1 = omega (arith, number, is, c.if-number-first.true) in
    let shared = c.in_ok-shared.ensures {u = tt} in
    shared ∙ sym (whole_root boxes parting.homes c.as_slice-all.ensures.are c.requires.parting.homes (one_root boxes few) c.args.r c.requires.within c.requires.root)

pub new-requires : goal.new-requires
new-requires c =
    let boxes = c.args.boxes.now in
    let homes = c.args.parting.now.homes in
    let items = rw c.as_slice-all.ensures.boxes at (c.in_ok-items.ensures {u = tt}) in
    let are = root_boxes boxes homes c.args.r c.as_slice-all.ensures.are c.requires.parting.homes in
    rw items (record { tree = are.tree; leaves = record { own = are.own; parents = are.parents } })
