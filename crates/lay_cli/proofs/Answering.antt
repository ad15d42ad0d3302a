-- What bytes that have a fault give.
use Rattle.std.proofs.Common.{◌≡◌, ◌≢◌, ℕ, ◌<◌, List, length, codes, inl, inr, Option, Some, None, IfSome, Ok, Err, Result, IfOk}
use Rattle.lay_units.specs.declared.memory.NoMemory.{NoMemory}
use Rattle.lay_json.specs.declared.fault.InputFault.{InputFault}
use Rattle.lay_json.specs.declared.fault.InputFault.TheVariants.{TooLong, NoMemory as ran_out}
use Rattle.lay_json.specs.Styled.StyledReading.{IsStyledReading}
use Rattle.lay_cli.proofs.Cited.{styled_too_long}
use Rattle.lay_cli.specs.declared.run_input.Input.{Input}
use Rattle.lay_cli.specs.declared.run_input.Input.TheVariants.{Run as a_run, Refusal}
use Rattle.lay_cli.specs.Answers.{IsFaultInput, IsRunOrRefusal}
use Rattle.lay_cli.specs.Input.{IsReadOut}
use Rattle.lay_outside.specs.Outside.{IsDrained}

-- what a fault gives, the bytes give that have it
pub input_of_fault : (bytes : List ℕ) (fault : InputFault) (result : Result Input NoMemory) → (fault ≢ ran_out → IsStyledReading bytes (Err fault)) → IfOk result (IsFaultInput fault) → IfOk result (IsRunOrRefusal bytes)
input_of_fault bytes fault (Ok (a_run run)) reading is = absurd is
input_of_fault bytes fault (Ok (Refusal line)) reading is = record { fault = fault; named = is.0; reading = reading is.0; line_is = is.1 }
input_of_fault bytes fault (Err e) reading is = tt

-- too many bytes are refused
pub too_many : (left : Option (List ℕ)) (line : List ℕ) → IfSome left (λ all. 16777216 < length all) → line ≡ codes "refused I1\n" → IfSome left (λ bytes. IsRunOrRefusal bytes (Refusal line))
too_many None line over is = tt
too_many (Some bytes) line over is = record { fault = TooLong; named = λ e. absurd cc; reading = styled_too_long bytes over; line_is = is }

-- what was read to its end, or had too many bytes
pub drained_out : (left now : Option (List ℕ)) → IsDrained left now → IsReadOut left now
drained_out None now drained = tt
drained_out (Some bytes) now drained = inl drained

pub over_out : (left now : Option (List ℕ)) → IfSome left (λ all. 16777216 < length all) → IsReadOut left now
over_out None now over = tt
over_out (Some bytes) now over = inr over
