-- How a call ends: what its status says of the sink. `Reports` are the texts that report, with the core that is kept, and
-- `Refuses` the lines that refuse.
use Rattle.std.specs.Prelude.{ℕ, ◌≡◌, ◌≢◌, ◌⊎◌, List, Option, None}
use Rattle.lay_outside.specs.Outside.{Rose, Took, TookFront}
use Rattle.lay_core.specs.State.{State}
use Rattle.lay_cli.specs.declared.status.Status.{Status}
use Rattle.lay_cli.specs.declared.status.Status.TheVariants.{Ok, Refused, WriteFault, NoMemory}

-- the bytes that a sink has taken, where they are told, and its count of faults
pub record SinkValue : Type 0 where
  pub taken : Option (List ℕ)
  pub faults : ℕ

-- a text that reports, whatever core was there, or a line that refuses
abbrev pub IsRunAnswer : (Option State → List ℕ → Type 0) → (List ℕ → Type 0) → List ℕ → Type 0
IsRunAnswer Reports Refuses text = ((core : Option State) × Reports core text) ⊎ Refuses text

-- the sink took a front of an answer
pub record TookFrontOf (Reports : Option State → List ℕ → Type 0) (Refuses : List ℕ → Type 0) (s t : SinkValue) : Type 0 where
  pub text : List ℕ
  pub answers : IsRunAnswer Reports Refuses text
  pub front : TookFront s.taken t.taken text

-- the sink took the whole of a text that has this property
abbrev pub TookWhole : (List ℕ → Type 0) → SinkValue → SinkValue → Type 0
TookWhole Is s t = (text : List ℕ) × Is text × Took s.taken t.taken text

pub record Ends (Reports : Option State → List ℕ → Type 0) (Refuses : List ℕ → Type 0) (status : Status)
    (s t : SinkValue) (kept : Option State) : Type 0 where
  pub ok : status ≡ Ok → TookWhole (Reports kept) s t
  pub not_ok : status ≢ Ok → kept ≡ None
  pub refused : status ≡ Refused → TookWhole Refuses s t
  pub write_fault : status ≡ WriteFault → Rose s.faults t.faults × TookFrontOf Reports Refuses s t
  pub no_memory : status ≡ NoMemory → (t.taken ≡ s.taken) ⊎ TookFrontOf Reports Refuses s t
