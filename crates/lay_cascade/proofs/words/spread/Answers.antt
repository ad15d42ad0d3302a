use Rattle.std.proofs.Common.{◌≡◌, ◌∙◌, sym, ap, arith, rules}
use Rattle.std.specs.Prelude.{bit_and, bit_or}
use Rattle.std.proofs.lemmas.Grind.{common_steps}
use Rattle.lay_cascade.specs.Words.{is_in, shifted}
use Rattle.lay_cascade.proofs.TruthValues.{spread_more, spread_done}
use Rattle.lay_cascade.proofs.words.spread.Goals as goal

pub returns-then-next-word : goal.returns-then-next-word
returns-then-next-word c =
    let same : bit_or c.args.start (bit_and c.args.run c.shifted.result) ≡ c.loop-turn.word = first_of (search rules, grind (arith, common_steps)) in
    spread_done c.args.start c.args.run c.loop-turn.word (ap (λ z. bit_or c.args.start (bit_and c.args.run z)) (sym c.shifted.ensures) ∙ same)

pub loop-turn-preserved : goal.loop-turn-preserved
loop-turn-preserved c = λ j h g.
    ap (λ z. is_in (bit_or c.args.start (bit_and c.args.run z)) j) c.shifted.ensures ∙ spread_more c.args.start c.args.run c.loop-turn.word c.loop-turn._turn c.loop-turn.invariant j h g
