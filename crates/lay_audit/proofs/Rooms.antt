-- Numbers that are counted while a text is read.
use Rattle.std.proofs.Common.{◌≡◌, ℕ, ◌+◌, ◌<◌, ◌≤◌, List, [], ◌++◌, length, refl, sym, ap, ◌∙◌, subst, arith, length-append, slice_index_or}
use Rattle.lay_history.specs.declared.edits.command.Cmd.{Cmd}
use Rattle.lay_history.specs.declared.edits.history.Entry.{Entry}
use Rattle.lay_history.specs.declared.edits.history.Entry.TheVariants as entry
use Rattle.lay_report.specs.Report.{entry_line}
use Rattle.lay_audit.specs.declared.step.Step.{Step}
use Rattle.lay_audit.specs.declared.step.Step.TheVariants as step
use Rattle.lay_audit.specs.Lines.{behind_line}
use Rattle.lay_audit.specs.NextLines.{BeginsWith}
use Rattle.lay_audit.specs.Presents.{Moves, next_after}
use Rattle.lay_audit.specs.Readings.{IsFrontOf, IsSteady, PartsFrom, ReadingValue}
use Rattle.lay_audit.proofs.Answering.{one_more}
use Rattle.lay_audit.proofs.ComparedLines.{lines_short, shorter_left}
use Rattle.std.proofs.lemmas.List.{length-set}

-- an entry's line isn't empty
some_line : (e : Entry) (rest : List ℕ) → BeginsWith rest (entry_line e) → rest ≡ [] → ⊥
some_line e rest begins none = nothing e begins.more (sym none ∙ begins.text_is)
  where
    nothing : (e : Entry) (more : List ℕ) → [] ≡ entry_line e ++ more → ⊥
    nothing (entry.Edit a i f r) more e = absurd cc
    nothing (entry.Publish v) more e = absurd cc
    nothing (entry.Latest a i r) more e = absurd cc
    nothing (entry.Sync a i r) more e = absurd cc

pub passes_line : (e : Entry) (rest behind : List ℕ) → BeginsWith rest (entry_line e) → behind ≡ behind_line rest → length behind < length rest
passes_line e rest behind begins is = subst (λ x. length x < length rest) (sym is) (shorter_left rest (some_line e rest begins))

same_length : (s : Step) (next : List ℕ) → length (next_after s next) ≡ length next
same_length (step.Answer place r) next = length-set next place (slice_index_or next place 0 + 1)
same_length step.Publish next = refl

pub steady_more : (scripts : List (List Cmd)) (r s : ReadingValue) (which : Step) (e : Entry) → IsSteady scripts r → BeginsWith r.rest (entry_line e)
    → Moves r.present which e s.present → s.rest ≡ behind_line r.rest → s.lines ≡ r.lines + 1 → IsSteady scripts s
steady_more scripts r s which e steady begins moves rest lines = record {
  lists = steady.lists;
  room = let a = steady.room in let b = passes_line e r.rest s.rest begins rest in omega (arith, a, b, lines);
  few = let a = steady.few in let b = one_more r.present s.present which e moves in omega (arith, a, b, lines);
  editors = ap (λ x. length x) moves.next_is ∙ (same_length which r.present.next ∙ steady.editors);
}

pub front_room : (wanted text : List ℕ) (lines : ℕ) (rest : List ℕ) → IsFrontOf wanted text lines rest → lines + length rest ≤ length text
front_room wanted text lines rest front =
    let a = lines_short lines wanted front.are_lines in
    let b : length text ≡ length wanted + length rest = ap (λ x. length x) front.text_is ∙ length-append wanted rest in
    omega (arith, a, b)

pub parts_room : (wanted text : List ℕ) (lines : ℕ) → PartsFrom wanted text lines → lines ≤ length text
parts_room wanted text lines parts =
    let a = lines_short lines parts.seen parts.are_lines in
    let b : length text ≡ length parts.seen + length parts.rest = ap (λ x. length x) parts.text_is ∙ length-append parts.seen parts.rest in
    omega (arith, a, b)
