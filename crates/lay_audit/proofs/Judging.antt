-- What is found, step by step.
use Rattle.std.proofs.Common.{◌≡◌, ℕ, suc, ◌+◌, List, [], ◌∷◌, ◌++◌, Some, refl, sym, ap, ◌∙◌, subst, arith, append_assoc, append-nil}
use Rattle.lay_history.specs.declared.edits.command.Reply.{Reply}
use Rattle.lay_history.specs.declared.edits.history.Entry.{Entry}
use Rattle.lay_history.specs.Histories.{shown_version, version_in}
use Rattle.lay_report.specs.Report.{entry_line, laid_line}
use Rattle.lay_context.specs.Laws.{OneSolution}
use Rattle.lay_audit.specs.declared.step.Step.TheVariants as step
use Rattle.lay_audit.specs.LegalReports.{Basis, IsLegalReport}
use Rattle.lay_audit.specs.Lines.{behind_line}
use Rattle.lay_audit.specs.NextLines.{BeginsWith}
use Rattle.lay_audit.specs.Presents.{IsPresentWithin, IsStep, Moves, shown_in}
use Rattle.lay_audit.specs.Readings.{HasLayout, IsAtEnd, IsFinalNext, IsFrontOf, IsLaidNext, IsLayoutOf, IsPlayed, IsRead, NoStep, PartsFrom, ReadingValue, pending_of}
use Rattle.lay_audit.specs.Verdicts.{IsFirstBad}
use Rattle.lay_audit.proofs.Answering.{no_version, step_shows}
use Rattle.lay_audit.proofs.Completing.{completed}
use Rattle.lay_audit.proofs.EndSteps.{can_end, laid_is_bad, laid_is_line, last_tree_is_bad, more_is_bad, reads_final, reads_last_tree}
use Rattle.lay_audit.proofs.Entries.{entry_behind}
use Rattle.lay_audit.proofs.LineFacts.{more_lines}
use Rattle.lay_audit.proofs.PlayedTrees.{played_more, published_played}
use Rattle.lay_audit.proofs.ReadSteps.{entry_is_bad, reads_entry, reads_tree, tree_is_bad}
use Rattle.lay_audit.proofs.VerdictLaws.{CanGoOn, first_bad}

-- the line of an entry is read

behind_entry : (e : Entry) (rest behind : List ℕ) → BeginsWith rest (entry_line e) → behind ≡ behind_line rest → rest ≡ entry_line e ++ behind
behind_entry e rest behind begins is =
    begins.text_is ∙ ap (λ x. entry_line e ++ x) (sym (is ∙ (ap behind_line begins.text_is ∙ entry_behind e begins.more)))

pub reads_answer : OneSolution → (basis : Basis) (text : List ℕ) (r s : ReadingValue) (place : ℕ) (reply : Reply) (e : Entry) → IsPresentWithin basis.scripts r.present
    → IsStep basis.scripts r.present (step.Answer place reply) e → Moves r.present (step.Answer place reply) e s.present → s.tree ≡ r.tree
    → BeginsWith r.rest (entry_line e) → s.rest ≡ behind_line r.rest → s.lines ≡ r.lines + 1 → IsRead basis text r []
    → IsRead basis text s (pending_of (shown_in (step.Answer place reply)) s.tree.text)
reads_answer one basis text r s place reply e few step_is moves tree begins rest lines is =
    subst (λ o. IsRead basis text s (pending_of o s.tree.text)) (step_shows basis.scripts r.present (step.Answer place reply) e step_is)
    (reads_entry one basis text r s (step.Answer place reply) e is few step_is
    (subst (λ t. IsPlayed basis (is.history ++ e ∷ []) s.present t) (sym tree)
    (played_more basis is.history r.present s.present r.tree (step.Answer place reply) e
    (ap version_in step_is.entry_is ∙ no_version (suc place) _ step_is.command reply) is.played step_is moves))
    (ap (λ t. pending_of (shown_version e) t.text) (sym tree)) (behind_entry e r.rest s.rest begins rest) lines)

pub reads_publication : OneSolution → (basis : Basis) (text : List ℕ) (r s : ReadingValue) (e : Entry) → IsPresentWithin basis.scripts r.present
    → IsStep basis.scripts r.present step.Publish e → Moves r.present step.Publish e s.present → IsLayoutOf r.present.document basis.face s.tree
    → BeginsWith r.rest (entry_line e) → s.rest ≡ behind_line r.rest → s.lines ≡ r.lines + 1 → IsRead basis text r []
    → IsRead basis text s (pending_of (shown_in step.Publish) s.tree.text)
reads_publication one basis text r s e few step_is moves layout begins rest lines is =
    subst (λ o. IsRead basis text s (pending_of o s.tree.text)) none
    (reads_entry one basis text r s step.Publish e is few step_is
    (published_played basis is.history r.present s.present r.tree s.tree e is.played step_is moves layout)
    (ap (λ o. pending_of o r.tree.text) none ∙ ap (λ o. pending_of o s.tree.text) (sym none)) (behind_entry e r.rest s.rest begins rest) lines)
  where
    none : shown_version e ≡ shown_in step.Publish
    none = step_shows basis.scripts r.present step.Publish e step_is

-- the lines of a tree

pub reads_shown : (basis : Basis) (text : List ℕ) (r s : ReadingValue) (count : ℕ) → IsRead basis text r r.tree.text → IsFrontOf r.tree.text r.rest count s.rest
    → s.lines ≡ r.lines + count → s.present ≡ r.present → s.tree ≡ r.tree → IsRead basis text s []
reads_shown basis text r s count is front lines present tree = reads_tree basis text r s r.tree.text count is front.are_lines front.text_is lines present tree

bad_number : (basis : Basis) (text whole : List ℕ) (m n : ℕ) → text ≡ whole → n ≡ suc m → IsFirstBad basis whole (suc m) → IsFirstBad basis text n
bad_number basis text whole m n same number bad = subst (λ x. IsFirstBad basis text x) (sym number) (subst (λ x. IsFirstBad basis x (suc m)) (sym same) bad)

pub bad_shown : OneSolution → (basis : Basis) (text : List ℕ) (r : ReadingValue) (count : ℕ) → IsRead basis text r r.tree.text → PartsFrom r.tree.text r.rest count
    → ((r.present.last ≡ Some r.present.count → ⊥) → HasLayout r.present.document basis.face) → IsFirstBad basis text (r.lines + count + 1)
bad_shown one basis text r count is parts layout =
    bad_number basis text ((is.front ++ parts.seen) ++ parts.rest) (r.lines + count) (r.lines + count + 1)
    (is.text_is ∙ (ap (λ x. is.front ++ x) parts.text_is ∙ sym (append_assoc is.front parts.seen parts.rest))) (omega arith)
    (first_bad basis (r.lines + count) (is.front ++ parts.seen) parts.rest (more_lines r.lines count is.front parts.seen is.are_lines parts.are_lines)
    (completed one basis text r r.tree.text parts.seen parts.left is parts.wanted_is layout)
    (tree_is_bad basis text r r.tree.text parts.seen parts.left parts.rest is parts.wanted_is parts.other))

-- no entry, nor the end

go_on_whole : (basis : Basis) (front : List ℕ) → CanGoOn basis (front ++ []) → CanGoOn basis front
go_on_whole basis front can = subst (CanGoOn basis) (append-nil front) can

pub bad_entry : OneSolution → (basis : Basis) (text : List ℕ) (r : ReadingValue) → IsRead basis text r [] → NoStep basis.scripts r
    → ((rest : List ℕ) → IsFinalNext basis.scripts r rest → ⊥)
    → ((r.present.last ≡ Some r.present.count → ⊥) → HasLayout r.present.document basis.face) → IsFirstBad basis text (r.lines + 1)
bad_entry one basis text r is none no_end layout =
    bad_number basis text (is.front ++ r.rest) r.lines (r.lines + 1) is.text_is (omega arith)
    (first_bad basis r.lines is.front r.rest is.are_lines (go_on_whole basis is.front (completed one basis text r [] [] [] is refl layout))
    (entry_is_bad basis text r is none (λ may begins. no_end begins.more (record { may = may; rest_is = begins.text_is }))))

pub ends_here : OneSolution → (basis : Basis) (text : List ℕ) (r : ReadingValue) (rest : List ℕ) → IsRead basis text r [] → IsFinalNext basis.scripts r rest
    → IsAtEnd basis text (r.lines + 1) rest r.tree.contexts r.tree.text
ends_here one basis text r rest is final = reads_final one basis text r rest is final.may final.rest_is

-- the last tree

pub reads_last : (basis : Basis) (text : List ℕ) (lines : ℕ) (rest behind : List ℕ) (contexts : ℕ) (pending : List ℕ) (count : ℕ)
    → IsAtEnd basis text lines rest contexts pending → IsFrontOf pending rest count behind → IsAtEnd basis text (lines + count) behind contexts []
reads_last basis text lines rest behind contexts pending count is front = reads_last_tree basis text lines rest behind contexts pending count is front.are_lines front.text_is

pub bad_last : (basis : Basis) (text : List ℕ) (lines : ℕ) (rest : List ℕ) (contexts : ℕ) (pending : List ℕ) (count : ℕ)
    → IsAtEnd basis text lines rest contexts pending → PartsFrom pending rest count → IsFirstBad basis text (lines + count + 1)
bad_last basis text lines rest contexts pending count is parts =
    bad_number basis text ((is.front ++ parts.seen) ++ parts.rest) (lines + count) (lines + count + 1)
    (is.text_is ∙ (ap (λ x. is.front ++ x) parts.text_is ∙ sym (append_assoc is.front parts.seen parts.rest))) (omega arith)
    (first_bad basis (lines + count) (is.front ++ parts.seen) parts.rest (more_lines lines count is.front parts.seen is.are_lines parts.are_lines)
    (can_end basis text lines rest contexts pending parts.seen parts.left is parts.wanted_is)
    (last_tree_is_bad basis text lines rest contexts pending parts.seen parts.left parts.rest is parts.wanted_is parts.other))

-- the number of claims, and the end

pub bad_laid : (basis : Basis) (text : List ℕ) (lines : ℕ) (rest : List ℕ) (contexts : ℕ) → IsAtEnd basis text lines rest contexts []
    → ((behind : List ℕ) → IsLaidNext contexts rest behind → ⊥) → IsFirstBad basis text (lines + 1)
bad_laid basis text lines rest contexts is none =
    bad_number basis text (is.front ++ rest) lines (lines + 1) is.text_is (omega arith)
    (first_bad basis lines is.front rest is.are_lines (go_on_whole basis is.front (can_end basis text lines rest contexts [] [] [] is refl))
    (laid_is_bad basis text lines rest contexts is none))

pub legal_end : (basis : Basis) (text : List ℕ) (lines : ℕ) (rest : List ℕ) (contexts : ℕ) → IsAtEnd basis text lines rest contexts []
    → IsLaidNext contexts rest [] → IsLegalReport basis text
legal_end basis text lines rest contexts is next =
    subst (IsLegalReport basis) (sym (is.text_is ∙ ap (λ x. is.front ++ x) (next.text_is ∙ append-nil (laid_line next.laid)))) (is.writes next.laid next.enough next.within)

pub bad_more : (basis : Basis) (text : List ℕ) (lines : ℕ) (rest : List ℕ) (contexts : ℕ) (behind : List ℕ) → IsAtEnd basis text lines rest contexts []
    → IsLaidNext contexts rest behind → (behind ≡ [] → ⊥) → IsFirstBad basis text (lines + 2)
bad_more basis text lines rest contexts behind is next some =
    bad_number basis text ((is.front ++ laid_line next.laid) ++ behind) (lines + 1) (lines + 2)
    (is.text_is ∙ (ap (λ x. is.front ++ x) next.text_is ∙ sym (append_assoc is.front (laid_line next.laid) behind))) (omega arith)
    (first_bad basis (lines + 1) (is.front ++ laid_line next.laid) behind (more_lines lines 1 is.front (laid_line next.laid) is.are_lines (laid_is_line next.laid))
    (record { more = []; legal = subst (IsLegalReport basis) (sym (append-nil (is.front ++ laid_line next.laid))) (is.writes next.laid next.enough next.within) })
    (more_is_bad basis text lines rest contexts is next.laid behind some))
