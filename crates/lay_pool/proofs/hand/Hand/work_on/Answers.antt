use Rattle.std.proofs.Common.{◌≡◌, ◌++◌, ◌∷◌, ◌∙◌, [], List, ap, append_assoc, arith, length, length-append}
use Rattle.std.proofs.lemmas.List.Elements.{All-push}
use Rattle.lay_pool.specs.Hands.{ComesOf}
use Rattle.lay_pool.proofs.hand.Hand.work_on.Goals as goal

pub loop-turn-preserved : goal.loop-turn-preserved
loop-turn-preserved g c =
    let mine = c.loop-turn.invariant.1 in
    let one = c.outcome_of.result in
    let pushed = c.push_reserved.ensures in
    let items : c.push_reserved.new.self.items ≡ c.args.held ++ (mine.more ++ one ∷ []) =
    pushed.items ∙ (ap (λ (xs : List _). xs ++ one ∷ []) (c.reserve.ensures.items ∙ mine.stay) ∙ append_assoc c.args.held mine.more (one ∷ [])) in (
      (let full = c.if-len-ge-BATCH.false in let len = c.len.ensures in let same = c.reserve.ensures.len in let more = pushed.len in omega (arith, full, len, same, more)),
      record {
        more = mine.more ++ one ∷ [];
        stay = items;
        come = All-push ComesOf mine.more one mine.come (c.in-Some.claim, c.outcome_of.ensures);
        few = (let few = mine.few in let long = length-append mine.more (one ∷ []) in omega (arith, few, long));
      },
    )
