use Rattle.std.proofs.Common.{◌≡◌, ◌<◌, [], ◌∷◌, ◌++◌, length, rules, arith}
use Rattle.lay_placements.specs.declared.piece_list.TheConstants.{FIRST_PIECES}
use Rattle.lay_placements.specs.PieceParts.{count_of, numbered}
use Rattle.lay_placements.proofs.PieceCountSteps.{all_first, one_first}
use Rattle.lay_placements.proofs.PieceSteps.{near_and_one}
use Rattle.lay_placements.proofs.piece_list.add.Goals as goal

pub returns-clause-counted : goal.returns-clause-counted
returns-clause-counted c =
    let few : length c.args.items.now.items < FIRST_PIECES = search (arith, rules) in
    let part : c.count_of-first.result ≡ count_of c.args.piece.kind c.args.piece.node.0 c.args.items.now.items =
    search (rules, all_first c.args.piece.kind c.args.piece.node.0 c.args.items.now.items few) in
    let pushed : c.push.new.self.items ≡ c.args.items.now.items ++ numbered c.args.items.now.items c.args.piece ∷ [] = rw (← part) (c.in_ok-push.ensures {u = tt}).items in
    rw pushed (one_first c.args.items.now.items (numbered c.args.items.now.items c.args.piece) c.args.counts.now c.requires.counted few)

pub returns-clause-all_near : goal.returns-clause-all_near
returns-clause-all_near c = rw (c.in_ok-push.ensures {u = tt}).items (near_and_one c.args.items.now.items _ c.requires.all_near c.requires.near)
