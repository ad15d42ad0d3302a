-- A legal report is there where the document before any edit has a layout: each edit is refused, nothing else is shown, and then that
-- document is published.
use Rattle.std.proofs.Common.{◌≡◌, ◌∙◌, ℕ, zero, suc, ◌+◌, ◌<◌, ◌≤◌, List, [], ◌∷◌, ◌++◌, length, replicate, take, slice_index_or, None, refl, sym, ap, subst, arith, inl, inr}
use Rattle.std.proofs.lemmas.Bool.{cases_lt}
use Rattle.std.proofs.lemmas.List.{get_or-replicate}
use Rattle.std.proofs.lemmas.Grind.{common_steps}
use Rattle.lay_history.specs.Calls.{calls, calls_of, script_calls, script_of}
use Rattle.lay_frag.specs.Lines.{tree_text}
use Rattle.lay_context.specs.Laws.{OneSolution}
use Rattle.lay_audit.specs.Laws.{BadLinesCountFromOne, BeginsWithLayout, SomeReportIsLegal}
use Rattle.lay_audit.specs.LegalReports.{Basis}
use Rattle.lay_audit.specs.Presents.{IsPresent, PresentValue, answered_of}
use Rattle.lay_audit.specs.Readings.{LastTreeValue, ReadingValue}
use Rattle.lay_audit.proofs.Completing.{completed}
use Rattle.lay_audit.proofs.ReadSteps.{none_read}
use Rattle.lay_audit.proofs.Taking.{first_played}

-- no command is answered
abbrev first_present : Basis → PresentValue
first_present basis = record { document = basis.init; count = 0; last = None; next = replicate (length basis.scripts) 0 }

none_answered : (n k : ℕ) → ◌≡◌ {A = ℕ} (slice_index_or (replicate n 0) k 0) 0
none_answered zero k = refl
none_answered (suc n) zero = refl
none_answered (suc n) (suc k) = none_answered n k

answered_none : (n editor : ℕ) → ◌≡◌ {A = ℕ} (answered_of (replicate n 0) editor) 0
answered_none n zero = refl
answered_none n (suc place) = none_answered n place

length_same : (n : ℕ) → length (replicate {A = ℕ} n 0) ≡ n
length_same zero = refl
length_same (suc n) = ap suc (length_same n)

first_is : (basis : Basis) → IsPresent basis [] (first_present basis)
first_is basis = record {
  legal = λ k e is. absurd cc;
  document_is = refl;
  count_is = refl;
  last_is = refl;
  answered = λ editor. ap (λ n. script_calls editor 0 (take n (script_of basis.scripts editor))) (sym (answered_none (length basis.scripts) editor));
  within = λ place. let e = none_answered (length basis.scripts) place in omega (arith, e);
  editors = length_same (length basis.scripts);
}

pub some_report_is_legal : OneSolution → SomeReportIsLegal
some_report_is_legal one basis begins =
    let tree : LastTreeValue = record { text = tree_text begins.tree; contexts = length begins.tree } in
    let reading : ReadingValue = record { lines = 0; rest = []; present = first_present basis; tree = record { text = []; contexts = 0 } } in
    let read = none_read basis [] reading refl refl (first_played basis (first_present basis) reading.tree (first_is basis)) in
    let can = completed one basis [] reading [] [] [] read refl
    (λ unpublished. (tree, record { tree = begins.tree; valid = begins.valid; solves = begins.solves; text_is = refl; contexts_are = refl; few = begins.few })) in
    ((read.front ++ []) ++ can.more, can.legal)

pub bad_lines_count_from_one : OneSolution → BadLinesCountFromOne
bad_lines_count_from_one one basis text zero begins bad =
    absurd (let some = some_report_is_legal one basis begins in bad.never (record { report = some.0; legal = some.1; alike = tt }))
bad_lines_count_from_one one basis text (suc n) begins bad = omega arith
