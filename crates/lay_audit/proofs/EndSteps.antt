-- The end of a report: its last tree, the number of claims, and nothing behind.
use Rattle.std.proofs.Common.{◌≡◌, ℕ, ◌+◌, ◌*◌, List, [], ◌∷◌, ◌++◌, length, Some, IfSome, codes, refl, sym, ap, ◌∙◌, subst, arith, append_assoc, append-nil}
use Rattle.std.specs.List.{flat_map}
use Rattle.std.specs.Fmt.{decimal}
use Rattle.std.proofs.lemmas.List.{append_cancel_left}
use Rattle.std.proofs.lemmas.Option.{same_Some}
use Rattle.lay_history.specs.declared.edits.history.Entry.{Entry}
use Rattle.lay_history.specs.Histories.{accepted, shown_version}
use Rattle.lay_history.specs.Trees.{PublishedTreeValue, tree_at}
use Rattle.lay_report.specs.Report.{entry_line, entry_text, final_line, final_text, laid_line, shown_lines}
use Rattle.lay_audit.proofs.Cited.{decimal_lacks, lacks_append, laid_body}
use Rattle.lay_context.specs.Laws.{OneSolution}
use Rattle.lay_audit.specs.LegalReports.{Basis, IsLegalReport, IsWholeRun}
use Rattle.lay_audit.specs.Lines.{behind_line, first_line}
use Rattle.lay_audit.specs.Readings.{ReadingEnds, GoesOn, IsAtEnd, IsLaidNext, IsRead, IsTreeOf, MayEnd, ReadingValue}
use Rattle.lay_audit.specs.WholeLines.{AreLines, LacksEnd}
use Rattle.lay_audit.proofs.Entries.{begins_with, final_is_line, not_final}
use Rattle.lay_audit.proofs.Fronts.{fronts_whole}
use Rattle.lay_audit.proofs.LineFacts.{end_of_first, first_ended, more_lines, one_line}
use Rattle.lay_audit.proofs.PlayedTrees.{shown_same}
use Rattle.lay_audit.proofs.ReadSteps.{behind_of, report_behind, report_split, shown_text}
use Rattle.lay_audit.proofs.VerdictLaws.{CanGoOn, NoneGoesOn}

-- a history that may end, as a whole run
pub whole_run : (basis : Basis) (text : List ℕ) (r : ReadingValue) (pending : List ℕ) (is : IsRead basis text r pending) → MayEnd basis.scripts r.present
    → IsWholeRun basis is.history is.played.have_trees.trees
whole_run basis text r pending is may = record {
  legal = is.played.present.legal;
  answers = fronts_whole basis.scripts is.history r.present.next is.played.present.answered may.answered;
  whole = sym is.played.present.last_is ∙ (may.whole ∙ ap (λ n. Some n) is.played.present.count_is);
  has_trees = is.played.have_trees.has_trees;
  solved = is.played.have_trees.solved;
}

itself : (h : List Entry) → GoesOn h h
itself h = record { later = []; history_is = sym (append-nil h) }

last_tree : (basis : Basis) (text : List ℕ) (r : ReadingValue) (pending : List ℕ) (is : IsRead basis text r pending) → MayEnd basis.scripts r.present
    → IsTreeOf basis is.history r.tree r.present.count
last_tree basis text r pending is may = subst (λ o. IfSome o (IsTreeOf basis is.history r.tree)) may.whole is.played.last_tree

-- the final line is read
pub reads_final : OneSolution → (basis : Basis) (text : List ℕ) (r : ReadingValue) (rest : List ℕ) → IsRead basis text r [] → MayEnd basis.scripts r.present
    → r.rest ≡ final_line r.present.count ++ rest → IsAtEnd basis text (r.lines + 1) rest r.tree.contexts r.tree.text
reads_final one basis text r rest is may at = record {
  front = is.front ++ final_line r.present.count;
  text_is = is.text_is ∙ (ap (λ x. is.front ++ x) at ∙ sym (append_assoc is.front (final_line r.present.count) rest));
  are_lines = more_lines r.lines 1 is.front (final_line r.present.count) is.are_lines (final_is_line r.present.count);
  few = let f = last.few in let c = last.contexts_are in omega (arith, f, c);
  writes = λ laid enough within. record {
    history = is.history;
    trees = trees;
    last = last.tree;
    laid = laid;
    run = run;
    last_is = ap (λ n. tree_at n trees) (sym counts) ∙ at_last is.history trees run (itself is.history);
    enough = let c = last.contexts_are in omega (arith, enough, c);
    within = within;
    text_is = sym (report_split trees is.history [] is.history laid (sym (append-nil is.history))
        ∙ (ap (λ x. x ++ (final_text (accepted is.history) trees ++ laid_line laid)) (is.writes is.history trees run (itself is.history) ∙ append-nil is.front)
        ∙ (ap (λ x. is.front ++ x) (append_assoc (final_line (accepted is.history)) (shown_lines trees (Some (accepted is.history))) (laid_line laid)
        ∙ (ap (λ n. final_line n ++ (shown_lines trees (Some n) ++ laid_line laid)) (sym counts)
        ∙ ap (λ x. final_line r.present.count ++ (x ++ laid_line laid)) (shown_text one basis is.history is.history trees r.present r.tree r.present.count run (itself is.history) is.played may.whole)))
        ∙ sym (append_assoc is.front (final_line r.present.count) (r.tree.text ++ laid_line laid)))));
  };
  tells = λ more legal.
      let so = behind_of basis text r [] is legal.history legal.trees legal.laid (final_line r.present.count ++ more) legal.run
      (sym legal.text_is ∙ append_assoc is.front (final_line r.present.count) more) in
      tells_by more legal so.goes.later so.goes.history_is so.behind;
}
  where
    trees : List PublishedTreeValue
    trees = is.played.have_trees.trees

    run : IsWholeRun basis is.history is.played.have_trees.trees
    run = whole_run basis text r [] is may

    last : IsTreeOf basis is.history r.tree r.present.count
    last = last_tree basis text r [] is may

    counts : r.present.count ≡ accepted is.history
    counts = is.played.present.count_is

    at_last : (whole : List Entry) (ts : List PublishedTreeValue) → IsWholeRun basis whole ts → GoesOn is.history whole
        → tree_at r.present.count ts ≡ Some (last_tree basis text r [] is may).tree
    at_last whole ts whole_is goes = shown_same one basis is.history whole ts r.tree r.present.count whole_is goes is.played.present.legal
        (sym is.played.present.last_is ∙ may.whole) (last_tree basis text r [] is may)

    tells_by : (more : List ℕ) (legal : IsLegalReport basis ((is.front ++ final_line r.present.count) ++ more)) (later : List Entry) → legal.history ≡ is.history ++ later
        → final_line r.present.count ++ more ≡ [] ++ report_behind legal.trees later (accepted legal.history) legal.laid → ReadingEnds r.tree.contexts r.tree.text more
    tells_by more legal [] goes behind =
        let same : legal.history ≡ is.history = goes ∙ append-nil is.history in
        let on : GoesOn is.history legal.history = record { later = []; history_is = goes } in
        let counted : accepted legal.history ≡ r.present.count = ap accepted same ∙ sym is.played.present.count_is in
        let lasts : legal.last ≡ (last_tree basis text r [] is may).tree
        = same_Some legal.last (last_tree basis text r [] is may).tree (sym legal.last_is ∙ (ap (λ n. tree_at n legal.trees) counted ∙ at_last legal.history legal.trees legal.run on)) in
        record {
          laid = legal.laid;
          enough = let c = (last_tree basis text r [] is may).contexts_are in let l = ap (λ x. length x) lasts in let e = legal.enough in omega (arith, c, l, e);
          within = legal.within;
          more_is = append_cancel_left (final_line r.present.count) more (r.tree.text ++ laid_line legal.laid)
              (behind ∙ (append_assoc (final_line (accepted legal.history)) (shown_lines legal.trees (Some (accepted legal.history))) (laid_line legal.laid)
              ∙ (ap (λ n. final_line n ++ (shown_lines legal.trees (Some n) ++ laid_line legal.laid)) counted
              ∙ ap (λ x. final_line r.present.count ++ (x ++ laid_line legal.laid))
              (shown_text one basis is.history legal.history legal.trees r.present r.tree r.present.count legal.run on is.played may.whole))));
        }
    tells_by more legal (f ∷ later) goes behind =
        absurd (not_final f r.present.count (shown_lines legal.trees (shown_version f) ++ report_behind legal.trees later (accepted legal.history) legal.laid) more
        (sym (append_assoc (entry_text legal.trees f) (flat_map (entry_text legal.trees) later) (final_text (accepted legal.history) legal.trees ++ laid_line legal.laid)
        ∙ append_assoc (entry_line f) (shown_lines legal.trees (shown_version f)) (report_behind legal.trees later (accepted legal.history) legal.laid)) ∙ sym behind))

-- the lines of the last tree are read
pub reads_last_tree : (basis : Basis) (text : List ℕ) (lines : ℕ) (rest behind : List ℕ) (contexts : ℕ) (pending : List ℕ) (count : ℕ)
    → IsAtEnd basis text lines rest contexts pending → AreLines count pending
    → rest ≡ pending ++ behind → IsAtEnd basis text (lines + count) behind contexts []
reads_last_tree basis text lines rest behind contexts pending count is are at = record {
  front = is.front ++ pending;
  text_is = is.text_is ∙ (ap (λ x. is.front ++ x) at ∙ sym (append_assoc is.front pending behind));
  are_lines = more_lines lines count is.front pending is.are_lines are;
  few = is.few;
  writes = λ laid enough within. subst (IsLegalReport basis) (sym (append_assoc is.front pending (laid_line laid))) (is.writes laid enough within);
  tells = λ more legal.
      let ends = is.tells (pending ++ more) (subst (IsLegalReport basis) (append_assoc is.front pending more) legal) in
      record { laid = ends.laid; enough = ends.enough; within = ends.within; more_is = append_cancel_left pending more (laid_line ends.laid) ends.more_is };
}

-- it can be ended
pub can_end : (basis : Basis) (text : List ℕ) (lines : ℕ) (rest : List ℕ) (contexts : ℕ) (pending seen left : List ℕ) (is : IsAtEnd basis text lines rest contexts pending) → pending ≡ seen ++ left → CanGoOn basis (is.front ++ seen)
can_end basis text lines rest contexts pending seen left is parts = record {
  more = left ++ laid_line (3 * contexts);
  legal = subst (IsLegalReport basis)
      (ap (λ x. is.front ++ x) (ap (λ x. x ++ laid_line (3 * contexts)) parts ∙ append_assoc seen left (laid_line (3 * contexts)))
      ∙ sym (append_assoc is.front seen (left ++ laid_line (3 * contexts)))) (is.writes (3 * contexts) (omega arith) is.few);
}

pub last_tree_is_bad : (basis : Basis) (text : List ℕ) (lines : ℕ) (whole : List ℕ) (contexts : ℕ) (pending seen left rest : List ℕ) → (is : IsAtEnd basis text lines whole contexts pending) → pending ≡ seen ++ left
    → ((more : List ℕ) → first_line (left ++ more) ≡ first_line rest → ⊥) → NoneGoesOn basis (is.front ++ seen) rest
last_tree_is_bad basis text lines whole contexts pending seen left rest is parts other more legal next =
    let ends = is.tells (seen ++ more) (subst (IsLegalReport basis) (append_assoc is.front seen more) legal) in
    let same : more ≡ left ++ laid_line ends.laid = append_cancel_left seen more (left ++ laid_line ends.laid) (ends.more_is ∙ (ap (λ x. x ++ laid_line ends.laid) parts ∙ append_assoc seen left (laid_line ends.laid))) in
    other (laid_line ends.laid) (sym (ap first_line same) ∙ next)

-- the number of claims

laid_lacks : (n : ℕ) → LacksEnd (laid_body n)
laid_lacks n = lacks_append 10 (codes "laid ") (decimal n) refl (decimal_lacks 10 n (omega arith))

pub laid_is_line : (n : ℕ) → AreLines 1 (laid_line n)
laid_is_line n = one_line (laid_body n) (laid_lacks n)

pub laid_first : (n : ℕ) (more : List ℕ) → first_line (laid_line n ++ more) ≡ laid_line n
laid_first n more = first_ended (laid_body n) more (laid_lacks n)

pub laid_is_bad : (basis : Basis) (text : List ℕ) (lines : ℕ) (rest : List ℕ) (contexts : ℕ) (is : IsAtEnd basis text lines rest contexts [])
    → ((behind : List ℕ) → IsLaidNext contexts rest behind → ⊥) → NoneGoesOn basis is.front rest
laid_is_bad basis text lines rest contexts is none more legal next =
    let ends = is.tells more legal in
    none (behind_line rest) (record {
      laid = ends.laid;
      enough = ends.enough;
      within = ends.within;
      text_is = begins_with (laid_line ends.laid) rest (sym next ∙ (ap first_line (ends.more_is ∙ sym (append-nil (laid_line ends.laid))) ∙ laid_first ends.laid []));
    })

-- and what stands behind it
pub more_is_bad : (basis : Basis) (text : List ℕ) (lines : ℕ) (whole : List ℕ) (contexts : ℕ) (is : IsAtEnd basis text lines whole contexts []) (laid : ℕ) (rest : List ℕ)
    → (rest ≡ [] → ⊥) → NoneGoesOn basis (is.front ++ laid_line laid) rest
more_is_bad basis text lines whole contexts is laid rest some more legal next =
    let ends = is.tells (laid_line laid ++ more) (subst (IsLegalReport basis) (append_assoc is.front (laid_line laid) more) legal) in
    let lines : laid_line laid ≡ laid_line ends.laid
    = sym (laid_first laid more) ∙ (ap first_line (ends.more_is ∙ sym (append-nil (laid_line ends.laid))) ∙ laid_first ends.laid []) in
    let none : more ≡ [] = append_cancel_left (laid_line laid) more [] (ends.more_is ∙ (sym lines ∙ sym (append-nil (laid_line laid)))) in
    some (end_of_first rest (sym (ap first_line none) ∙ next))
