-- An answer that isn't want of memory is what is read.
use Rattle.std.proofs.Common.{◌≡◌, ◌≢◌, sym, ap, Result, Ok, Err}
use Rattle.lay_json.specs.declared.fault.InputFault.{InputFault}
use Rattle.lay_json.specs.declared.fault.InputFault.TheVariants.{NoMemory}
use Rattle.lay_json.specs.Fields.{Gives}

pub is_read : {A : Type 0} (answer read : Result A InputFault) → Gives answer read → answer ≢ Err NoMemory → answer ≡ read
is_read (Ok a) read gives named = sym gives
is_read (Err fault) read gives named = sym (gives (λ e. named (ap Err e)))
