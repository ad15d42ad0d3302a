-- What the code keeps of a line as it goes from its end to its start, within bounds.
use Rattle.std.specs.Prelude.{All}
use Rattle.lay_units.specs.declared.length.Unit.{Unit}
use Rattle.lay_inlines.specs.declared.spans.Behind.{Behind}
use Rattle.lay_inlines.specs.Bounds.{IsEdge, SpanWithin}

pub record Within (v : Unit) : Type 0 where
  pub is : IsEdge v.0

pub record BehindWithin (b : Behind) : Type 0 where
  pub spans : All SpanWithin b.spans.items
  pub edges : All Within b.edges.items
