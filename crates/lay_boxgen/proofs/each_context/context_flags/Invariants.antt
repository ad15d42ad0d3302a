use Rattle.lay_boxgen.specs.Contexts.{AreFlagsOf, IsContextAt}
use Rattle.lay_boxgen.specs.GeneratedBoxes.{AreGenerated}
use Rattle.lay_boxgen.proofs.each_context.context_flags.Given as goal

abbrev pub invariant-loop-k : goal.invariant-loop-k
invariant-loop-k l = AreGenerated l.nodes l.styles l.k l.generated.items × AreFlagsOf (IsContextAt l.nodes l.styles) l.k l.contexts.items
