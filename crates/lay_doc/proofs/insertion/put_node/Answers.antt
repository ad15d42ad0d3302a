use Rattle.std.proofs.Common.{◌≡◌, List, arith, ap, ◌∙◌}
use Rattle.std.specs.Prelude.{map}
use Rattle.std.specs.List.{insert}
use Rattle.lay_units.specs.Limits.{most_nodes}
use Rattle.lay_doc.specs.declared.node.Node.{Node}
use Rattle.lay_doc.specs.Document.{ids_of, parents_of, moved, inserted}
use Rattle.lay_doc.proofs.NodeColumns.{length-ids, length-parents}
use Rattle.lay_doc.proofs.Inserted.{small_parents, parents_before, parents_within, ids_inserted}
use Rattle.lay_doc.proofs.Indexed.{index_added}
use Rattle.lay_doc.proofs.insertion.put_node.Goals as goal

pub shift_parents-requires-clause-small : goal.shift_parents-requires-clause-small
shift_parents-requires-clause-small c =
    let nodes = c.args.nodes.now.items in
    let items : c.insert_within.new.nodes.items ≡ insert nodes c.args.at c.args.node = c.insert_within.ensures ∙ ap (λ (xs : List Node). insert xs c.args.at c.args.node) c.reserve.ensures.items in
    let len = length-parents nodes in
    rw items (small_parents nodes c.args.at most_nodes c.args.node c.requires.at (λ k lt. omega (arith, parents_within (parents_of nodes) c.requires.tree k (omega arith))) (omega (arith, c.requires.at, c.requires.parent)))

pub shift_parents-requires-clause-before : goal.shift_parents-requires-clause-before
shift_parents-requires-clause-before c =
    let nodes = c.args.nodes.now.items in
    let items : c.insert_within.new.nodes.items ≡ insert nodes c.args.at c.args.node = c.insert_within.ensures ∙ ap (λ (xs : List Node). insert xs c.args.at c.args.node) c.reserve.ensures.items in
    rw items (parents_before nodes c.args.at c.args.node c.requires.tree (omega (arith, c.requires.parent)) c.requires.at)

pub returns-clause-indexed : goal.returns-clause-indexed
returns-clause-indexed c =
    let nodes = c.args.nodes.now.items in
    let items : c.insert_within.new.nodes.items ≡ insert nodes c.args.at c.args.node = c.insert_within.ensures ∙ ap (λ (xs : List Node). insert xs c.args.at c.args.node) c.reserve.ensures.items in
    let new : c.shift_parents.new.nodes.items ≡ inserted nodes c.args.at c.args.node = c.shift_parents.ensures ∙ ap (map (moved c.args.at)) items in
    let ids = ap ids_of new ∙ ids_inserted nodes c.args.at c.args.node in
    let added = c.in_ok-add.ensures {u = tt} in
    let len = length-ids nodes in
    rw ids (index_added c.args.index.now c.add.new.self (ids_of nodes) c.args.node.id.0 c.args.at c.requires.index (omega (arith, c.requires.at)) c.requires.fresh
    (record { numbers_are = added.numbers; places_are = added.places }))
