use Rattle.std.proofs.Common.{List, subst, rules, ◌≡◌, ◌+◌, [], ◌∷◌, ◌++◌, arith}
use Rattle.lay_frag.specs.declared.frag.Frag.{Frag}
use Rattle.lay_placements.specs.declared.piece_list.TheConstants.{FIRST_PIECES}
use Rattle.lay_placements.specs.PieceCounts.{AreCounted}
use Rattle.lay_placements.specs.PieceParts.{count_of, numbered}
use Rattle.lay_placements.proofs.PieceCountSteps.{count_both, count_few}
use Rattle.lay_placements.proofs.PieceSteps.{near_and_one}
use Rattle.lay_placements.proofs.piece_list.add_behind.Goals as goal

pub overflow_add-first : goal.overflow_add-first
overflow_add-first c =
    let both = count_both c.args.piece.kind c.args.piece.node.0 FIRST_PIECES c.args.items.now.items in
    let few = count_few c.args.piece.kind c.args.piece.node.0 c.args.items.now.items in
    search (arith, rules, both, few, c.requires.counted.few)

pub returns-clause-counted : goal.returns-clause-counted
returns-clause-counted c =
    let part : c.args.first + c.in_ok-behind.behind ≡ count_of c.args.piece.kind c.args.piece.node.0 c.reserve.new.self.items =
    search (rules, count_both c.args.piece.kind c.args.piece.node.0 FIRST_PIECES c.reserve.new.self.items) in
    let pushed : c.push.new.self.items ≡ c.reserve.new.self.items ++ numbered c.reserve.new.self.items c.args.piece ∷ [] = rw (← part) (c.in_ok-push.ensures {u = tt}).items in
    rw pushed (subst (λ (fs : List Frag). AreCounted (fs ++ numbered fs c.args.piece ∷ []) c.take_note.new.counts) c.deref.ensures.value (c.in_ok-behind.ensures {u = tt}).after)

pub returns-clause-all_near : goal.returns-clause-all_near
returns-clause-all_near c =
    let before = rw (← c.reserve.ensures.items) at c.requires.all_near in
    rw (c.in_ok-push.ensures {u = tt}).items (near_and_one c.reserve.new.self.items _ before c.requires.near)
