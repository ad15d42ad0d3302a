use Rattle.std.proofs.Common.{◌≡◌, ℕ, ◌<◌, ◌≤◌, List, arith, length, get_or, take, sym}
use Rattle.std.specs.List.{remove_range}
use Rattle.std.proofs.lemmas.List.{length-take-le}
use Rattle.lay_doc.specs.Document.{ids_of}
use Rattle.lay_doc.proofs.NodeColumns.{length-ids}
use Rattle.lay_doc.proofs.Indexed.{index_added}
use Rattle.lay_doc.proofs.Cut.{length-cut, distinct_cut, next_fresh, no_number, insert_next}
use Rattle.lay_doc.proofs.index.IdIndex.without.Goals as goal

pub add-requires-clause-fresh : goal.add-requires-clause-fresh
add-requires-clause-fresh c =
    let ids : List ℕ = ids_of c.args.nodes.now in
    let kept : List ℕ = remove_range ids c.args.from c.args.to in
    let len = length-ids c.args.nodes.now in
    let within : c.args.to ≤ length ids = omega (arith, len, c.requires.to) in
    let cut = length-cut ids c.args.from c.args.to c.requires.from within in
    let fresh = next_fresh kept c.loop-k.k (distinct_cut ids c.args.from c.args.to c.requires.from within (λ a b less lt. c.requires.apart a b less (omega (arith, len)))) (omega arith) in
    rw c.kept_id.ensures (no_number c.loop-k.index (take c.loop-k.k kept) (get_or kept c.loop-k.k 0) c.loop-k.invariant fresh)

pub loop-k-preserved : goal.loop-k-preserved
loop-k-preserved c =
    let ids : List ℕ = ids_of c.args.nodes.now in
    let kept : List ℕ = remove_range ids c.args.from c.args.to in
    let len = length-ids c.args.nodes.now in
    let within : c.args.to ≤ length ids = omega (arith, len, c.requires.to) in
    let cut = length-cut ids c.args.from c.args.to c.requires.from within in
    let inside : c.loop-k.k < length kept = omega arith in
    let fresh = next_fresh kept c.loop-k.k (distinct_cut ids c.args.from c.args.to c.requires.from within (λ a b less lt. c.requires.apart a b less (omega (arith, len)))) inside in
    let short = length-take-le c.loop-k.k kept (omega arith) in
    let added = c.in_ok-add.ensures {u = tt} in
    let id : c.kept_id.result ≡ get_or kept c.loop-k.k 0 = c.kept_id.ensures in
    rw (sym (insert_next kept c.loop-k.k inside)) (index_added c.loop-k.index c.add.new.self (take c.loop-k.k kept) (get_or kept c.loop-k.k 0) c.loop-k.k c.loop-k.invariant (omega arith) fresh
    (record { numbers_are = rw id at added.numbers; places_are = added.places }))
