-- A strut that holds given margins, and the runs of given edges, are the only ones.
use Rattle.std.specs.Prelude.{◌≡◌, ℤ, List}
use Rattle.lay_margins.specs.declared.edge.Edge.{Edge}
use Rattle.lay_margins.specs.declared.edge.Run.{Run}
use Rattle.lay_margins.specs.StrutValue.{StrutValue}
use Rattle.lay_margins.specs.Collapse.{Holds}
use Rattle.lay_margins.specs.Runs.{AreRuns}

abbrev pub OneStrut : Type 0
OneStrut = (margins : List ℤ) (s t : StrutValue) → Holds s margins → Holds t margins → s ≡ t

abbrev pub OneListOfRuns : Type 0
OneListOfRuns = (edges : List Edge) (xs ys : List Run) → AreRuns edges xs → AreRuns edges ys → xs ≡ ys
