-- How calls end.
use Rattle.std.proofs.Common.{◌≡◌, ◌≢◌, ◌⊎◌, ℕ, List, refl, sym, ◌∙◌, inl, inr, Option, Some, None, IfSome}
use Rattle.lay_outside.specs.Outside.{Rose, Took, TookFront}
use Rattle.lay_run.specs.Runs.{Run}
use Rattle.lay_core.specs.State.{State}
use Rattle.lay_report.specs.declared.fault.ReportFault.{ReportFault}
use Rattle.lay_report.specs.declared.fault.ReportFault.TheVariants.{WriteFault as write_failed, NoMemory as ran_out}
use Rattle.lay_words.specs.declared.form.Form.TheVariants as form
use Rattle.lay_cli.specs.declared.status.Status.{Status}
use Rattle.lay_cli.specs.declared.status.Status.TheVariants.{Ok, Refused, Usage, ReadFault, WriteFault, NoMemory}
use Rattle.lay_cli.specs.Statuses.{status_of}
use Rattle.lay_context.specs.Solves.{Solves}
use Rattle.lay_cli.specs.Answers.{IsDriven, IsRunReport, IsScratchReport, OfKept, OfRun, Reports, Spells}
use Rattle.lay_cli.specs.Endings.{Ends, SinkValue, TookFrontOf}

front_weaker : (R P : Option State → List ℕ → Type 0) (F G : List ℕ → Type 0) (s t : SinkValue) → ((core : Option State) (text : List ℕ) → R core text → P core text) → ((line : List ℕ) → F line → G line)
    → TookFrontOf R F s t → TookFrontOf P G s t
front_weaker R P F G s t more lines f = record {
  text = f.text;
  answers = elim f.answers [ inl a ↦ inl (a.0, more a.0 f.text a.1) | inr b ↦ inr (lines f.text b) ];
  front = f.front;
}

-- what ends so for some texts, does for more
pub ends_weaker : (R P : Option State → List ℕ → Type 0) (F G : List ℕ → Type 0) (status : Status) (s t : SinkValue) (kept : Option State)
    → ((core : Option State) (text : List ℕ) → R core text → P core text) → ((line : List ℕ) → F line → G line)
    → Ends R F status s t kept → Ends P G status s t kept
ends_weaker R P F G status s t kept more lines e = record {
  ok = λ r. let w = e.ok r in (w.0, more kept w.0 w.1, w.2);
  not_ok = e.not_ok;
  refused = λ r. let w = e.refused r in (w.0, lines w.0 w.1, w.2);
  write_fault = λ r. let w = e.write_fault r in (w.0, front_weaker R P F G s t more lines w.1);
  no_memory = λ r. elim (e.no_memory r) [ inl same ↦ inl same | inr f ↦ inr (front_weaker R P F G s t more lines f) ];
}

-- the whole of a report was written
pub ends_ok : (R : Option State → List ℕ → Type 0) (F : List ℕ → Type 0) (s t : SinkValue) (kept : Option State) (text : List ℕ) → R kept text → Took s.taken t.taken text → Ends R F Ok s t kept
ends_ok R F s t kept text is took = record {
  ok = λ r. (text, is, took);
  not_ok = λ n. absurd (n refl);
  refused = λ r. absurd cc;
  write_fault = λ r. absurd cc;
  no_memory = λ r. absurd cc;
}

-- nothing was written
pub ends_lack : (R : Option State → List ℕ → Type 0) (F : List ℕ → Type 0) (s t : SinkValue) → t.taken ≡ s.taken → Ends R F NoMemory s t None
ends_lack R F s t same = record { ok = λ r. absurd cc; not_ok = λ n. refl; refused = λ r. absurd cc; write_fault = λ r. absurd cc; no_memory = λ r. inl same }

pub ends_unread : (R : Option State → List ℕ → Type 0) (F : List ℕ → Type 0) (s t : SinkValue) → Ends R F ReadFault s t None
ends_unread R F s t = record { ok = λ r. absurd cc; not_ok = λ n. refl; refused = λ r. absurd cc; write_fault = λ r. absurd cc; no_memory = λ r. absurd cc }

-- a front of a report was written
pub ends_broken : (R : Option State → List ℕ → Type 0) (F : List ℕ → Type 0) (s t : SinkValue) (core : Option State) (text : List ℕ) (fault : ReportFault)
    → R core text → TookFront s.taken t.taken text → (fault ≡ write_failed → Rose s.faults t.faults) → Ends R F (status_of fault) s t None
ends_broken R F s t core text write_failed is front rose = record {
  ok = λ r. absurd cc;
  not_ok = λ n. refl;
  refused = λ r. absurd cc;
  write_fault = λ r. (rose refl, record { text = text; answers = inl (core, is); front = front });
  no_memory = λ r. absurd cc;
}
ends_broken R F s t core text ran_out is front rose = record {
  ok = λ r. absurd cc;
  not_ok = λ n. refl;
  refused = λ r. absurd cc;
  write_fault = λ r. absurd cc;
  no_memory = λ r. inr (record { text = text; answers = inl (core, is); front = front });
}

-- a report that broke off ends neither as wrong words nor as a source that failed
pub broken_not_usage : (fault : ReportFault) → status_of fault ≢ Usage
broken_not_usage write_failed = λ is. absurd cc
broken_not_usage ran_out = λ is. absurd cc

pub broken_not_read : (fault : ReportFault) → status_of fault ≢ ReadFault
broken_not_read write_failed = λ is. absurd cc
broken_not_read ran_out = λ is. absurd cc

-- a front of a summary was written, and the sink failed
pub ends_failed : (R : Option State → List ℕ → Type 0) (F : List ℕ → Type 0) (s t : SinkValue) (core : Option State) (text : List ℕ) → R core text → TookFront s.taken t.taken text → Rose s.faults t.faults
    → Ends R F WriteFault s t None
ends_failed R F s t core text is front rose = ends_broken R F s t core text write_failed is front (λ e. rose)

-- the line of a refusal was told
pub ends_refused : (R : Option State → List ℕ → Type 0) (F : List ℕ → Type 0) (s t : SinkValue) (line : List ℕ) (status : Status) → F line
    → (status ≢ WriteFault → (status ≡ Refused) × Took s.taken t.taken line) → (status ≡ WriteFault → Rose s.faults t.faults) → (status ≡ WriteFault → TookFront s.taken t.taken line)
    → (status ≡ Refused) ⊎ (status ≡ WriteFault) → Ends R F status s t None
ends_refused R F s t line status is told rose front either = record {
  ok = λ r. elim either [ inl e ↦ absurd (let f : Ok ≡ Refused = sym r ∙ e in cc) | inr e ↦ absurd (let f : Ok ≡ WriteFault = sym r ∙ e in cc) ];
  not_ok = λ n. refl;
  refused = λ r. (line, is, (told (λ w. let f : Refused ≡ WriteFault = sym r ∙ w in cc)).1);
  write_fault = λ r. (rose r, record { text = line; answers = inr is; front = front r });
  no_memory = λ r. elim either [ inl e ↦ absurd (let f : NoMemory ≡ Refused = sym r ∙ e in cc) | inr e ↦ absurd (let f : NoMemory ≡ WriteFault = sym r ∙ e in cc) ];
}

-- the summary of a core was told
pub ends_told : (R : Option State → List ℕ → Type 0) (F : List ℕ → Type 0) (s t : SinkValue) (core : Option State) (text : List ℕ) (status : Status) → R core text
    → (status ≢ WriteFault → (status ≡ Ok) × Took s.taken t.taken text) → (status ≡ WriteFault → Rose s.faults t.faults) → (status ≡ WriteFault → TookFront s.taken t.taken text)
    → (status ≢ Ok) → (status ≡ Ok) ⊎ (status ≡ WriteFault) → Ends R F status s t None
ends_told R F s t core text status is told rose front not_ok either = record {
  ok = λ r. absurd (not_ok r);
  not_ok = λ n. refl;
  refused = λ r. elim either [ inl e ↦ absurd (let f : Refused ≡ Ok = sym r ∙ e in cc) | inr e ↦ absurd (let f : Refused ≡ WriteFault = sym r ∙ e in cc) ];
  write_fault = λ r. (rose r, record { text = text; answers = inl (core, is); front = front r });
  no_memory = λ r. elim either [ inl e ↦ absurd (let f : NoMemory ≡ Ok = sym r ∙ e in cc) | inr e ↦ absurd (let f : NoMemory ≡ WriteFault = sym r ∙ e in cc) ];
}

of_bytes : (left : Option (List ℕ)) (run : Run) (P : Run → Type 0) → IfSome left (λ bytes. Spells bytes run) → P run → IfSome left (λ bytes. OfRun bytes P)
of_bytes None run P spells holds = tt
of_bytes (Some bytes) run P spells holds = record { run = run; spells = spells; holds = holds }

-- what reports a run, reports the bytes that spell it
pub scratch_reports : (left : Option (List ℕ)) (run : Run) → IfSome left (λ bytes. Spells bytes run) → (core : Option State) (text : List ℕ) → (core ≡ None) × IsScratchReport run text → Reports form.Scratch left core text
scratch_reports left run spells core text is =
    (is.0, record { tree = is.1.tree; text_is = is.1.text_is; solves = of_bytes left run (λ r. Solves r.doc r.face is.1.tree) spells is.1.solves })

pub run_reports : (workers : ℕ) (left : Option (List ℕ)) (run : Run) → IfSome left (λ bytes. Spells bytes run) → (core : Option State) (text : List ℕ) → OfKept core (λ s. IsRunReport run s text) → Reports (form.Run workers) left core text
run_reports workers left run spells None text is = absurd is
run_reports workers left run spells (Some s) text is = record { text_is = is.text_is; within = is.within; whole = is.driven.whole; driven = of_bytes left run (λ r. IsDriven r s) spells is.driven }

pub none_refused : (G : List ℕ → Type 0) (line : List ℕ) → ⊥ → G line
none_refused G line n = absurd n
