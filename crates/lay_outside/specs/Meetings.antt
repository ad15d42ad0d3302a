-- What a gate is told that lets threads meet: the point at which it holds a thread, and the points that are to be reached first.
use Rattle.std.specs.Prelude.{List}
use Rattle.lay_outside.specs.declared.gate.Point.{Point}

pub record Meeting : Type 0 where
  pub hold : Point
  pub until : List Point
