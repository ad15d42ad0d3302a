use Rattle.std.proofs.Common.{◌≡◌, ◌++◌, string_bytes}
use Rattle.lay_generator.specs.Draws.{state_after}
use Rattle.lay_generator.specs.Nodes.{more_words}
use Rattle.lay_generator.proofs.nodes.push_words.Given as goal

abbrev pub invariant-loop-left : goal.invariant-loop-left
invariant-loop-left l = record {
  text : string_bytes l.text ++ more_words l.left l.draws ≡ string_bytes l.fn.text ++ more_words l.fn.more l.fn.draws;
  state : state_after l.left l.draws ≡ state_after l.fn.more l.fn.draws;
}

abbrev pub decreases-loop-left : goal.decreases-loop-left
decreases-loop-left l = l.left
