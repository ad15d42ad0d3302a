-- Reading on: one more entry, and the lines of a tree.
use Rattle.std.proofs.Common.{◌≡◌, ℕ, ◌+◌, ◌<◌, ◌^◌, List, [], ◌∷◌, ◌++◌, Option, Some, None, IfSome, refl, sym, ap, ◌∙◌, subst, arith, append_assoc, append-nil}
use Rattle.std.specs.List.{flat_map}
use Rattle.std.proofs.lemmas.List.{append_cancel_left}
use Rattle.std.proofs.lemmas.List.Concat.{flat_map-append}
use Rattle.lay_history.specs.declared.edits.history.Entry.{Entry}
use Rattle.lay_history.specs.Calls.{AnswersScripts}
use Rattle.lay_history.specs.Histories.{accepted, last_published, shown_version}
use Rattle.lay_history.specs.Legal.{IsLegal}
use Rattle.lay_history.specs.Trees.{PublishedTreeValue}
use Rattle.lay_audit.proofs.Cited.{shown_last}
use Rattle.lay_report.specs.Report.{entry_line, entry_text, final_line, final_text, laid_line, run_report, shown_lines, tree_lines}
use Rattle.lay_context.specs.Laws.{OneSolution}
use Rattle.lay_audit.specs.declared.step.Step.{Step}
use Rattle.lay_audit.specs.LegalReports.{Basis, IsWholeRun}
use Rattle.lay_audit.specs.Lines.{behind_line, first_line}
use Rattle.lay_audit.specs.NextLines.{BeginsWith}
use Rattle.lay_audit.specs.Presents.{IsPresentWithin, IsStep, PresentValue}
use Rattle.lay_audit.specs.Readings.{GoesOn, IsPlayed, IsRead, IsTreeOf, LastTreeValue, MayEnd, NoStep, ReadingValue, pending_of}
use Rattle.lay_audit.specs.WholeLines.{AreLines}
use Rattle.lay_audit.proofs.Entries.{begins_with, entry_first, entry_is_line, final_first, not_final, one_step}
use Rattle.lay_audit.proofs.Fronts.{whole_fronts}
use Rattle.lay_audit.proofs.LineFacts.{more_lines}
use Rattle.lay_audit.proofs.NextEntries.{next_is_step, step_follows}
use Rattle.lay_audit.proofs.PlayedTrees.{last_not_past, shown_same}
use Rattle.lay_audit.proofs.VerdictLaws.{NoneGoesOn}

-- the rest of a report behind a history
abbrev pub report_behind : List PublishedTreeValue → List Entry → ℕ → ℕ → List ℕ
report_behind trees later version laid = flat_map (entry_text trees) later ++ (final_text version trees ++ laid_line laid)

pub report_split : (trees : List PublishedTreeValue) (h later whole : List Entry) (laid : ℕ) → whole ≡ h ++ later
    → run_report whole trees laid ≡ flat_map (entry_text trees) h ++ report_behind trees later (accepted whole) laid
report_split trees h later whole laid e =
    append_assoc (flat_map (entry_text trees) whole) (final_text (accepted whole) trees) (laid_line laid)
    ∙ (ap (λ x. x ++ (final_text (accepted whole) trees ++ laid_line laid)) (ap (flat_map (entry_text trees)) e ∙ flat_map-append (entry_text trees) h later)
    ∙ append_assoc (flat_map (entry_text trees) h) (flat_map (entry_text trees) later) (final_text (accepted whole) trees ++ laid_line laid))

-- what a report that begins with the lines that were read has behind them
pub record IsBehind (basis : Basis) (text : List ℕ) (r : ReadingValue) (pending : List ℕ) (is : IsRead basis text r pending)
    (whole : List Entry) (trees : List PublishedTreeValue) (laid : ℕ) (more : List ℕ) : Type 0 where
  pub goes : GoesOn is.history whole
  pub behind : more ≡ pending ++ report_behind trees goes.later (accepted whole) laid

pub behind_of : (basis : Basis) (text : List ℕ) (r : ReadingValue) (pending : List ℕ) (is : IsRead basis text r pending)
    (whole : List Entry) (trees : List PublishedTreeValue) (laid : ℕ) (more : List ℕ) → IsWholeRun basis whole trees
    → run_report whole trees laid ≡ is.front ++ more → IsBehind basis text r pending is whole trees laid more
behind_of basis text r pending is whole trees laid more run e =
    let goes = is.tells whole trees laid more run e in
    record {
      goes = goes;
      behind = append_cancel_left is.front more (pending ++ report_behind trees goes.later (accepted whole) laid)
          (sym e ∙ (report_split trees is.history goes.later whole laid goes.history_is
          ∙ (ap (λ x. x ++ report_behind trees goes.later (accepted whole) laid) (is.writes whole trees run goes)
          ∙ append_assoc is.front pending (report_behind trees goes.later (accepted whole) laid))));
    }

-- the tree that an entry shows

last_tree_at : (basis : Basis) (h : List Entry) (t : LastTreeValue) (o : Option ℕ) (v : ℕ) → o ≡ Some v → IfSome o (IsTreeOf basis h t) → IsTreeOf basis h t v
last_tree_at basis h t o v e is = subst (λ x. IfSome x (IsTreeOf basis h t)) e is

pub shown_text : OneSolution → (basis : Basis) (h whole : List Entry) (trees : List PublishedTreeValue) (p : PresentValue) (t : LastTreeValue) (v : ℕ)
    → IsWholeRun basis whole trees → GoesOn h whole → IsPlayed basis h p t → p.last ≡ Some v → shown_lines trees (Some v) ≡ t.text
shown_text one basis h whole trees p t v run goes played last =
    let is = last_tree_at basis h t p.last v last played.last_tree in
    ap tree_lines (shown_same one basis h whole trees t v run goes played.present.legal (sym played.present.last_is ∙ last) is) ∙ sym is.text_is

shown_pending : OneSolution → (basis : Basis) (h whole : List Entry) (trees : List PublishedTreeValue) (p : PresentValue) (t : LastTreeValue) (o : Option ℕ)
    → IsWholeRun basis whole trees → GoesOn h whole → IsPlayed basis h p t → ((v : ℕ) → o ≡ Some v → p.last ≡ Some v)
    → shown_lines trees o ≡ pending_of o t.text
shown_pending one basis h whole trees p t None run goes played last = refl
shown_pending one basis h whole trees p t (Some v) run goes played last = shown_text one basis h whole trees p t v run goes played (last v refl)

one_entry : (trees : List PublishedTreeValue) (h : List Entry) (e : Entry)
    → flat_map (entry_text trees) (h ++ e ∷ []) ≡ flat_map (entry_text trees) h ++ (entry_line e ++ shown_lines trees (shown_version e))
one_entry trees h e = flat_map-append (entry_text trees) h (e ∷ []) ∙ ap (λ x. flat_map (entry_text trees) h ++ x) (append-nil (entry_line e ++ shown_lines trees (shown_version e)))

goes_before : (h whole : List Entry) (e : Entry) → GoesOn (h ++ e ∷ []) whole → GoesOn h whole
goes_before h whole e goes = record { later = e ∷ goes.later; history_is = goes.history_is ∙ append_assoc h (e ∷ []) goes.later }

no_bytes : (a b : List ℕ) → a ++ [] ++ b ≡ a ++ b
no_bytes a b = ap (λ x. x ++ b) (append-nil a)

-- an entry of a step is read
pub reads_entry : OneSolution → (basis : Basis) (text : List ℕ) (r s : ReadingValue) (which : Step) (e : Entry) (is : IsRead basis text r [])
    → IsPresentWithin basis.scripts r.present → IsStep basis.scripts r.present which e
    → IsPlayed basis (is.history ++ e ∷ []) s.present s.tree → (pending_of (shown_version e) r.tree.text ≡ pending_of (shown_version e) s.tree.text)
    → r.rest ≡ entry_line e ++ s.rest → s.lines ≡ r.lines + 1 → IsRead basis text s (pending_of (shown_version e) s.tree.text)
reads_entry one basis text r s which e is few step played same rest lines = record {
  history = is.history ++ e ∷ [];
  front = is.front ++ entry_line e;
  text_is = is.text_is ∙ (ap (λ x. is.front ++ x) rest ∙ sym (append_assoc is.front (entry_line e) s.rest));
  are_lines = subst (λ n. AreLines n (is.front ++ entry_line e)) (sym lines) (more_lines r.lines 1 is.front (entry_line e) is.are_lines (entry_is_line e));
  played = played;
  writes = λ whole trees run goes.
      let before = goes_before is.history whole e goes in
      let shows = shown_pending one basis is.history whole trees r.present r.tree (shown_version e) run before is.played
      (λ v at. is.played.present.last_is ∙ shown_last basis.init is.history e v (step_follows basis is.history r.present which e is.played.present step) at) in
      one_entry trees is.history e
      ∙ (ap (λ x. x ++ (entry_line e ++ shown_lines trees (shown_version e))) (is.writes whole trees run before ∙ append-nil is.front)
      ∙ (ap (λ x. is.front ++ (entry_line e ++ x)) (shows ∙ same) ∙ sym (append_assoc is.front (entry_line e) (pending_of (shown_version e) s.tree.text))));
  tells = λ whole trees laid more run is_report.
      let so = behind_of basis text r [] is whole trees laid (entry_line e ++ more) run (is_report ∙ append_assoc is.front (entry_line e) more) in
      tells_by whole trees laid more run so.goes so.behind;
}
  where
    last_within : (v : ℕ) → r.present.last ≡ Some v → v < 2 ^ 64
    last_within v at =
        let past = last_not_past basis.init is.history v is.played.present.legal (sym is.played.present.last_is ∙ at) in
        let counted = is.played.present.count_is in let c = few.count in omega (arith, past, counted, c)

    tells_with : (whole later : List Entry) (trees : List PublishedTreeValue) (laid : ℕ) (more : List ℕ) → IsWholeRun basis whole trees
        → whole ≡ is.history ++ later → entry_line e ++ more ≡ report_behind trees later (accepted whole) laid → GoesOn (is.history ++ e ∷ []) whole
    tells_with whole [] trees laid more run goes behind =
        absurd (not_final e (accepted whole) more (shown_lines trees (Some (accepted whole)) ++ laid_line laid)
        (behind ∙ append_assoc (final_line (accepted whole)) (shown_lines trees (Some (accepted whole))) (laid_line laid)))
    tells_with whole (f ∷ later) trees laid more run goes behind =
        let has = next_is_step basis is.history later f r.present is.played.present (subst (IsLegal basis.init) goes run.legal) (subst (λ x. AnswersScripts x basis.scripts) goes run.answers) in
        let apart : report_behind trees (f ∷ later) (accepted whole) laid ≡ entry_line f ++ (shown_lines trees (shown_version f) ++ report_behind trees later (accepted whole) laid) = append_assoc (entry_text trees f) (flat_map (entry_text trees) later) (final_text (accepted whole) trees ++ laid_line laid)
        ∙ append_assoc (entry_line f) (shown_lines trees (shown_version f)) (report_behind trees later (accepted whole) laid) in
        let same_entry = one_step basis.scripts r.present which has.which e f more (shown_lines trees (shown_version f) ++ report_behind trees later (accepted whole) laid)
        few last_within step has.is (behind ∙ apart) in
        record { later = later; history_is = goes ∙ (ap (λ x. is.history ++ x ∷ later) (sym same_entry) ∙ sym (append_assoc is.history (e ∷ []) later)) }

    tells_by : (whole : List Entry) (trees : List PublishedTreeValue) (laid : ℕ) (more : List ℕ) → IsWholeRun basis whole trees
        → (goes : GoesOn is.history whole) → entry_line e ++ more ≡ [] ++ report_behind trees goes.later (accepted whole) laid → GoesOn (is.history ++ e ∷ []) whole
    tells_by whole trees laid more run goes behind = tells_with whole goes.later trees laid more run goes.history_is behind

-- the lines of the tree are read
pub reads_tree : (basis : Basis) (text : List ℕ) (r s : ReadingValue) (pending : List ℕ) (count : ℕ) → IsRead basis text r pending → AreLines count pending
    → r.rest ≡ pending ++ s.rest → s.lines ≡ r.lines + count → s.present ≡ r.present → s.tree ≡ r.tree → IsRead basis text s []
reads_tree basis text r s pending count is are rest lines present tree = record {
  history = is.history;
  front = is.front ++ pending;
  text_is = is.text_is ∙ (ap (λ x. is.front ++ x) rest ∙ sym (append_assoc is.front pending s.rest));
  are_lines = subst (λ n. AreLines n (is.front ++ pending)) (sym lines) (more_lines r.lines count is.front pending is.are_lines are);
  played = subst (λ p. IsPlayed basis is.history p s.tree) (sym present) (subst (λ t. IsPlayed basis is.history r.present t) (sym tree) is.played);
  writes = λ whole trees run goes. is.writes whole trees run goes ∙ sym (append-nil (is.front ++ pending));
  tells = λ whole trees laid more run e. is.tells whole trees laid (pending ++ more) run (e ∙ append_assoc is.front pending more);
}

-- a line stands next that no legal report has there

-- the lines of a tree go another way
pub tree_is_bad : (basis : Basis) (text : List ℕ) (r : ReadingValue) (pending seen left rest : List ℕ) → (is : IsRead basis text r pending) → pending ≡ seen ++ left
    → ((more : List ℕ) → first_line (left ++ more) ≡ first_line rest → ⊥) → NoneGoesOn basis (is.front ++ seen) rest
tree_is_bad basis text r pending seen left rest is parts other more legal next =
    let so = behind_of basis text r pending is legal.history legal.trees legal.laid (seen ++ more) legal.run (sym legal.text_is ∙ append_assoc is.front seen more) in
    let behind : List ℕ = report_behind legal.trees so.goes.later (accepted legal.history) legal.laid in
    let same : more ≡ left ++ behind = append_cancel_left seen more (left ++ behind) (so.behind ∙ (ap (λ x. x ++ behind) parts ∙ append_assoc seen left behind)) in
    other behind (sym (ap first_line same) ∙ next)

-- no entry may come, nor the end
pub entry_is_bad : (basis : Basis) (text : List ℕ) (r : ReadingValue) (is : IsRead basis text r []) → NoStep basis.scripts r
    → (MayEnd basis.scripts r.present → BeginsWith r.rest (final_line r.present.count) → ⊥) → NoneGoesOn basis is.front r.rest
entry_is_bad basis text r is none no_end more legal next =
    let so = behind_of basis text r [] is legal.history legal.trees legal.laid more legal.run (sym legal.text_is) in
    by so.goes.later so.goes.history_is so.behind
  where
    by : (later : List Entry) → legal.history ≡ is.history ++ later → more ≡ [] ++ report_behind legal.trees later (accepted legal.history) legal.laid → ⊥
    by [] goes behind =
        let ends : legal.history ≡ is.history = goes ∙ append-nil is.history in
        let counts : accepted legal.history ≡ r.present.count = ap accepted ends ∙ sym is.played.present.count_is in
        let tail : List ℕ = shown_lines legal.trees (Some (accepted legal.history)) ++ laid_line legal.laid in
        let line : more ≡ final_line r.present.count ++ tail = behind ∙ (append_assoc (final_line (accepted legal.history)) (shown_lines legal.trees (Some (accepted legal.history))) (laid_line legal.laid)
        ∙ ap (λ n. final_line n ++ tail) counts) in
        no_end record {
          answered = whole_fronts basis.scripts is.history r.present.next is.played.present.answered is.played.present.within
              (subst (λ x. AnswersScripts x basis.scripts) ends legal.run.answers);
          whole = is.played.present.last_is ∙ (subst (λ x. last_published x ≡ Some (accepted x)) ends legal.run.whole ∙ ap (λ n. Some n) (sym is.played.present.count_is));
        } (record { more = behind_line r.rest; text_is = begins_with (final_line r.present.count) r.rest (sym next ∙ (ap first_line line ∙ final_first r.present.count tail)) })
    by (f ∷ later) goes behind =
        let has = next_is_step basis is.history later f r.present is.played.present (subst (IsLegal basis.init) goes legal.run.legal)
        (subst (λ x. AnswersScripts x basis.scripts) goes legal.run.answers) in
        let tail : List ℕ = shown_lines legal.trees (shown_version f) ++ report_behind legal.trees later (accepted legal.history) legal.laid in
        let line : more ≡ entry_line f ++ tail = behind ∙ (append_assoc (entry_text legal.trees f) (flat_map (entry_text legal.trees) later) (final_text (accepted legal.history) legal.trees ++ laid_line legal.laid)
        ∙ append_assoc (entry_line f) (shown_lines legal.trees (shown_version f)) (report_behind legal.trees later (accepted legal.history) legal.laid)) in
        none has.which f has.is (record { more = behind_line r.rest; text_is = begins_with (entry_line f) r.rest (sym next ∙ (ap first_line line ∙ entry_first f tail)) })

-- nothing was read
pub none_read : (basis : Basis) (text : List ℕ) (r : ReadingValue) → r.lines ≡ 0 → r.rest ≡ text → IsPlayed basis [] r.present r.tree → IsRead basis text r []
none_read basis text r lines rest played = record {
  history = [];
  front = [];
  text_is = sym rest;
  are_lines = record { bodies = []; text_is = refl; lack = tt; count_is = lines };
  played = played;
  writes = λ whole trees run goes. refl;
  tells = λ whole trees laid more run e. record { later = whole; history_is = refl };
}
