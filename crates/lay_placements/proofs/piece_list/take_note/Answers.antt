use Rattle.std.proofs.Common.{◌≡◌, ◌∙◌, ap, arith}
use Rattle.std.proofs.lemmas.Result.{err_from_is_err_and}
use Rattle.lay_placements.specs.declared.piece_list.TheConstants.{FIRST_PIECES}
use Rattle.lay_placements.specs.PieceCounts.{count_in, counts_of, with_one}
use Rattle.lay_placements.proofs.PieceCountSteps.{count_behind, one_more, same_counts}
use Rattle.lay_placements.proofs.piece_list.take_note.Goals as goal

pub with_one-requires : goal.with_one-requires
with_one-requires c =
    let each = c.requires.counted.each c.args.piece.kind c.args.piece.node.0 in
    let few = count_behind c.args.piece.kind c.args.piece.node.0 FIRST_PIECES c.args.items.now in
    rw c.at-node.ensures (omega (arith, each, few, c.requires.counted.few))

pub returns-clause-before : goal.returns-clause-before
returns-clause-before c =
    c.count_in.ensures ∙ ap (λ k. count_in k c.args.piece.kind) c.at-node.ensures ∙ c.requires.counted.each c.args.piece.kind c.args.piece.node.0

pub returns-clause-after : goal.returns-clause-after
returns-clause-after c =
    let put = c.in_ok-put.ensures {u = tt} in
    let here : counts_of c.put.new.self c.args.piece.node.0 ≡ with_one (counts_of c.args.counts.now c.args.piece.node.0) c.args.piece.kind =
    put.here ∙ c.with_one.ensures ∙ ap (λ k. with_one k c.args.piece.kind) c.at-node.ensures in
    one_more c.args.items.now c.args.piece c.args.counts.now c.put.new.self c.requires.counted c.requires.many c.requires.room here put.others

pub returns-in_err-put-clause-err : goal.returns-in_err-put-clause-err
returns-in_err-put-clause-err c =
    let failed = err_from_is_err_and c.from_residual.result c.from_residual.ensures.1 in
    rw failed.1 (same_counts c.args.items.now c.args.counts.now c.put.new.self c.requires.counted c.in_err-put.ensures.err)
