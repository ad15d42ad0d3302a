-- How a call that says which piece is seen ends.
use Rattle.std.proofs.Common.{◌≡◌, ◌≢◌, ◌⊎◌, ℕ, List, refl, sym, ◌∙◌, inl, inr, subst, Option, Some, None, IfSome}
use Rattle.lay_outside.specs.Outside.{Rose, Took, TookFront}
use Rattle.lay_run.specs.Runs.{Run}
use Rattle.lay_core.specs.State.{State}
use Rattle.lay_words.specs.declared.form.Form.TheVariants as form
use Rattle.lay_hit.specs.declared.point.Point.{Point}
use Rattle.lay_cli.specs.declared.status.Status.{Status}
use Rattle.lay_cli.specs.declared.status.Status.TheVariants.{Ok, Refused, WriteFault, NoMemory}
use Rattle.lay_cli.specs.Answers.{IsPieceReport, OfRun, Reports, Spells}
use Rattle.lay_cli.specs.Endings.{Ends, SinkValue}
use Rattle.lay_cli.specs.Hits.{IsHitReport, IsSeen, point_at}

-- one text was told, and no core is kept
pub ends_line : (R : Option State → List ℕ → Type 0) (F : List ℕ → Type 0) (s t : SinkValue) (text : List ℕ) (status : Status) → R None text
    → (status ≢ WriteFault → (status ≡ Ok) × Took s.taken t.taken text) → (status ≡ WriteFault → Rose s.faults t.faults) → (status ≡ WriteFault → TookFront s.taken t.taken text)
    → (status ≡ Ok) ⊎ (status ≡ WriteFault) → Ends R F status s t None
ends_line R F s t text status is told rose front either = record {
  ok = λ r. (text, is, (told (λ w. let f : Ok ≡ WriteFault = sym r ∙ w in cc)).1);
  not_ok = λ n. refl;
  refused = λ r. elim either [ inl e ↦ absurd (let f : Refused ≡ Ok = sym r ∙ e in cc) | inr e ↦ absurd (let f : Refused ≡ WriteFault = sym r ∙ e in cc) ];
  write_fault = λ r. (rose r, record { text = text; answers = inl (None, is); front = front r });
  no_memory = λ r. elim either [ inl e ↦ absurd (let f : NoMemory ≡ Ok = sym r ∙ e in cc) | inr e ↦ absurd (let f : NoMemory ≡ WriteFault = sym r ∙ e in cc) ];
}

-- what is seen of a run, is seen of the bytes that spell it
pub hit_reports : (x y : ℕ) (at : Point) (left : Option (List ℕ)) (run : Run) → at ≡ point_at x y → IfSome left (λ bytes. Spells bytes run)
    → (core : Option State) (text : List ℕ) → (core ≡ None) × IsHitReport run at text → Reports (form.Hit x y) left core text
hit_reports x y at left run same spells core text is =
    subst (λ (p : Point). (core ≡ None) × IsPieceReport left p text) same (is.0, record { piece = is.1.piece; text_is = is.1.text_is; seen = of_bytes left spells })
  where
    of_bytes : (o : Option (List ℕ)) → IfSome o (λ bytes. Spells bytes run) → IfSome o (λ bytes. OfRun bytes (λ r. IsSeen r at is.1.piece))
    of_bytes None s = tt
    of_bytes (Some bytes) s = record { run = run; spells = s; holds = is.1.seen }
