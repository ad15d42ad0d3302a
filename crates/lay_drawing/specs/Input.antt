-- What was read of a source, and why a report isn't there.
use Rattle.std.specs.Prelude.{ℕ, ◌≡◌, List, ◌++◌, Option, Some, IfSome}
use Rattle.lay_outside.specs.Outside.{Rose}
use Rattle.lay_drawing.specs.declared.input.InputFault.{InputFault}
use Rattle.lay_drawing.specs.declared.input.InputFault.TheVariants.{BadLine, Failed, NoMemory}
use Rattle.lay_drawing.specs.declared.state.Stop.{Stop}
use Rattle.lay_drawing.specs.declared.state.Stop.TheVariants as stop
use Rattle.lay_drawing.specs.declared.state.Reading.{Reading}
use Rattle.lay_drawing.specs.Reports.{IsBadLine}
use Rattle.lay_drawing.specs.States.{HasRead, WasReport}

-- the first bytes were read, and those of `now` are left
abbrev pub HasReadFirst : Option (List ℕ) → Option (List ℕ) → Reading → Type 0
HasReadFirst left now s = IfSome left (λ all. (first rest : List ℕ) × (now ≡ Some rest) × (all ≡ first ++ rest) × HasRead s first)

-- where bytes were told, all of them are a report
abbrev pub HasReport : Option (List ℕ) → Reading → Type 0
HasReport left s = IfSome left (λ all. WasReport s all)

-- when each fault comes
abbrev pub IsCause : ℕ → ℕ → Option (List ℕ) → InputFault → Type 0
IsCause old new left (BadLine number) = IfSome left (λ all. IsBadLine all number)
IsCause old new left Failed = Rose old new
IsCause old new left NoMemory = Unit {0}

-- reading stopped where there is a fault
abbrev pub fault_of : Stop → InputFault
fault_of (stop.BadLine number) = BadLine number
fault_of stop.NoMemory = NoMemory
