use Rattle.std.proofs.Common.{◌∙◌, ◌-◌, ◌<◌, ◌++◌, ◌∷◌, ℕ, List, sym, ap, arith, append_assoc, string_bytes}
use Rattle.lay_generator.specs.Draws.{next, state_after}
use Rattle.lay_generator.specs.Nodes.{more_words, word}
use Rattle.lay_generator.proofs.Steps.{state_step, words_step}
use Rattle.lay_generator.proofs.nodes.push_words.Goals as goal

pub loop-left-preserved : goal.loop-left-preserved
loop-left-preserved c =
    let n = c.loop-left.left in
    let some : 0 < n = omega (arith, c.loop-left-test.true) in
    let state = c.loop-left.draws in
    let before = string_bytes c.loop-left.text in
    let rest = more_words (n - 1) (next state) in
    let pushed = c.in_ok-push_word.ensures in
    record {
      text = ap (λ (d : ℕ). string_bytes c.push_word.new.text ++ more_words (n - 1) d) pushed.state
          ∙ (ap (λ (ys : List ℕ). ys ++ rest) pushed.text ∙ (append_assoc before (32 ∷ word state) rest
          ∙ (ap (λ (ys : List ℕ). before ++ ys) (sym (words_step n state some)) ∙ c.loop-left.invariant.text)));
      state = ap (state_after (n - 1)) pushed.state ∙ (sym (state_step n state some) ∙ c.loop-left.invariant.state);
    }
