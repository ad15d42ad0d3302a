-- The lines of entries: which entry a line tells.
use Rattle.std.proofs.Common.{◌≡◌, ℕ, ◌+◌, ◌<◌, ◌^◌, suc, List, [], ◌∷◌, ◌++◌, length, Some, codes, refl, sym, ap, ◌∙◌, subst, arith, append_assoc, slice_index_or}
use Rattle.std.specs.Fmt.{decimal}
use Rattle.std.specs.List.{All}
use Rattle.std.proofs.lemmas.Option.{get_or_from_slice_get, same_Some}
use Rattle.lay_doc.specs.declared.edit.Edit.{Edit as Change}
use Rattle.lay_audit.proofs.Cited.{decimal_lacks, entry_body, entry_ended, entry_lacks, entry_same, final_body, first_within, lacks_append, same_front}
use Rattle.lay_history.specs.declared.edits.command.Cmd.{Cmd}
use Rattle.lay_history.specs.declared.edits.command.Cmd.TheVariants as command
use Rattle.lay_history.specs.declared.edits.command.Reply.{Reply}
use Rattle.lay_history.specs.declared.edits.command.Reply.TheVariants.{Accepted, Refused, Shown, NoMemory}
use Rattle.lay_history.specs.declared.edits.history.Entry.{Entry}
use Rattle.lay_history.specs.declared.edits.history.Entry.TheVariants.{Edit, Publish, Latest, Sync}
use Rattle.lay_history.specs.Laws.{ShowsSame}
use Rattle.lay_report.specs.Laws.{IsEntryWithin, IsReplyWithin}
use Rattle.lay_report.specs.Report.{entry_line, final_line}
use Rattle.lay_audit.specs.declared.step.Step.{Step}
use Rattle.lay_audit.specs.declared.step.Step.TheVariants as step
use Rattle.lay_audit.specs.Lines.{behind_line, first_line}
use Rattle.lay_audit.specs.Presents.{Answers, AreCommandsWithin, IsCommandWithin, IsPresentWithin, IsStep, PresentValue, entry_of, next_command}
use Rattle.lay_audit.specs.WholeLines.{AreLines, LacksEnd}
use Rattle.lay_audit.proofs.LineFacts.{first_ended, behind_ended, line_parts, one_line}
use Rattle.lay_audit.proofs.NextEntries.{index_within, place_within}

-- an entry's line is one line

pub entry_is_line : (e : Entry) → AreLines 1 (entry_line e)
entry_is_line e = subst (AreLines 1) (sym (entry_ended e)) (one_line (entry_body e) (entry_lacks e))

pub entry_first : (e : Entry) (more : List ℕ) → first_line (entry_line e ++ more) ≡ entry_line e
entry_first e more = subst (λ t. first_line (t ++ more) ≡ t) (sym (entry_ended e)) (first_ended (entry_body e) more (entry_lacks e))

pub entry_behind : (e : Entry) (more : List ℕ) → behind_line (entry_line e ++ more) ≡ more
entry_behind e more = subst (λ t. behind_line (t ++ more) ≡ more) (sym (entry_ended e)) (behind_ended (entry_body e) more (entry_lacks e))

final_lacks : (v : ℕ) → LacksEnd (final_body v)
final_lacks v = lacks_append 10 (codes "final ") (decimal v) refl (decimal_lacks 10 v (omega arith))

pub final_is_line : (v : ℕ) → AreLines 1 (final_line v)
final_is_line v = one_line (final_body v) (final_lacks v)

pub final_first : (v : ℕ) (more : List ℕ) → first_line (final_line v ++ more) ≡ final_line v
final_first v more = first_ended (final_body v) more (final_lacks v)

pub final_behind : (v : ℕ) (more : List ℕ) → behind_line (final_line v ++ more) ≡ more
final_behind v more = behind_ended (final_body v) more (final_lacks v)

-- a text whose first line is that of another one begins with it
pub begins_with : (line s : List ℕ) → first_line s ≡ line → s ≡ line ++ behind_line s
begins_with line s e = sym (line_parts s) ∙ ap (λ t. t ++ behind_line s) e

-- no entry's line is the final one
abbrev first_byte : List ℕ → ℕ
first_byte text = slice_index_or text 0 0

pub not_final : (e : Entry) (v : ℕ) (s t : List ℕ) → entry_line e ++ s ≡ final_line v ++ t → ⊥
not_final (Edit a i f r) v s t e = let x : 101 ≡ 102 = ap first_byte e in omega (arith, x)
not_final (Publish w) v s t e = let x : 112 ≡ 102 = ap first_byte e in omega (arith, x)
not_final (Latest a i r) v s t e = let x : 108 ≡ 102 = ap first_byte e in omega (arith, x)
not_final (Sync a i r) v s t e = let x : 115 ≡ 102 = ap first_byte e in omega (arith, x)

-- so is the version that was published last
abbrev pub IsLastWithin : PresentValue → Type 0
IsLastWithin p = (v : ℕ) → p.last ≡ Some v → v < 2 ^ 64

reply_edits : (p : PresentValue) (edits : List Change) (r : Reply) → p.count + 1 < 2 ^ 64 → length edits < 2 ^ 64 → Answers p (command.Edits edits) r
    → IsReplyWithin (length edits) r
reply_edits p edits (Accepted v) few short is = let e = is.1 in omega (arith, few, e)
reply_edits p edits (Refused k f) few short is = let lt = first_within p.document edits k f is in (lt, omega (arith, lt, short))
reply_edits p edits (Shown v) few short is = absurd is
reply_edits p edits NoMemory few short is = tt

reply_latest : (p : PresentValue) (r : Reply) → ((v : ℕ) → p.last ≡ Some v → v < 2 ^ 64) → Answers p command.Latest r → IsReplyWithin 0 r
reply_latest p (Accepted v) few is = absurd is
reply_latest p (Refused k f) few is = absurd is
reply_latest p (Shown v) few is = few v is
reply_latest p NoMemory few is = tt

reply_sync : (p : PresentValue) (r : Reply) → ((v : ℕ) → p.last ≡ Some v → v < 2 ^ 64) → Answers p command.Sync r → IsReplyWithin 0 r
reply_sync p (Accepted v) few is = absurd is
reply_sync p (Refused k f) few is = absurd is
reply_sync p (Shown v) few is = few v is.0
reply_sync p NoMemory few is = tt

entry_within : (scripts : List (List Cmd)) (p : PresentValue) (editor index : ℕ) (c : Cmd) (r : Reply) → IsPresentWithin scripts p → IsLastWithin p → IsCommandWithin c
    → editor < 2 ^ 64 → index < 2 ^ 64 → Answers p c r → IsEntryWithin (entry_of editor index c r)
entry_within scripts p editor index (command.Edits edits) r few last short a b is = (a, b, reply_edits p edits r few.count short is)
entry_within scripts p editor index command.Latest r few last short a b is = (a, b, reply_latest p r last is)
entry_within scripts p editor index command.Sync r few last short a b is = (a, b, reply_sync p r last is)

-- the next command is one of its script
next_within : (scripts : List (List Cmd)) (p : PresentValue) (place : ℕ) (c : Cmd) → All AreCommandsWithin scripts → next_command scripts p place ≡ Some c → IsCommandWithin c
next_within scripts p place c lists is =
    let script = lists place [] (place_within scripts p place c is) in
    subst IsCommandWithin (get_or_from_slice_get (slice_index_or scripts place []) (slice_index_or p.next place 0) c c is)
    (script (slice_index_or p.next place 0) c (index_within scripts p place c is))

step_within : (scripts : List (List Cmd)) (p : PresentValue) (s : Step) (e : Entry) → IsPresentWithin scripts p → IsLastWithin p → IsStep scripts p s e → IsEntryWithin e
step_within scripts p (step.Answer place reply) e few last is =
    subst IsEntryWithin (sym is.entry_is) (entry_within scripts p (suc place) (slice_index_or p.next place 0) is.command reply few last (next_within scripts p place is.command few.lists is.command_is)
    (let lt = place_within scripts p place is.command is.command_is in let m = few.editors in omega (arith, lt, m)) (few.indices place) is.answers)
step_within scripts p step.Publish e few last is = subst IsEntryWithin (sym is.1) (let c = few.count in omega (arith, c))

-- entries of steps that show the same are the same

record SameAnswer (a b i j : ℕ) (r s : Reply) : Type 0 where
  editors : a ≡ b
  indices : i ≡ j
  replies : r ≡ s

same_parts : (a i b j : ℕ) (c d : Cmd) (r s : Reply) → ShowsSame (entry_of a i c r) (entry_of b j d s) → SameAnswer a b i j r s
same_parts a i b j (command.Edits es) (command.Edits fs) r s same = record { editors = same.0; indices = same.1; replies = same.2 }
same_parts a i b j (command.Edits es) command.Latest r s same = absurd same
same_parts a i b j (command.Edits es) command.Sync r s same = absurd same
same_parts a i b j command.Latest (command.Edits fs) r s same = absurd same
same_parts a i b j command.Latest command.Latest r s same = record { editors = same.0; indices = same.1; replies = same.2 }
same_parts a i b j command.Latest command.Sync r s same = absurd same
same_parts a i b j command.Sync (command.Edits fs) r s same = absurd same
same_parts a i b j command.Sync command.Latest r s same = absurd same
same_parts a i b j command.Sync command.Sync r s same = record { editors = same.0; indices = same.1; replies = same.2 }

not_publication : (a i v : ℕ) (c : Cmd) (r : Reply) → ShowsSame (entry_of a i c r) (Publish v) → ⊥
not_publication a i v (command.Edits es) r same = same
not_publication a i v command.Latest r same = same
not_publication a i v command.Sync r same = same

no_publication : (a i v : ℕ) (c : Cmd) (r : Reply) → ShowsSame (Publish v) (entry_of a i c r) → ⊥
no_publication a i v (command.Edits es) r same = same
no_publication a i v command.Latest r same = same
no_publication a i v command.Sync r same = same

shows_same : (scripts : List (List Cmd)) (p : PresentValue) (s t : Step) (e f : Entry) → IsStep scripts p s e → IsStep scripts p t f → ShowsSame e f → e ≡ f
shows_same scripts p (step.Answer j r) (step.Answer k q) e f a b same =
    let parts = same_parts (suc j) (slice_index_or p.next j 0) (suc k) (slice_index_or p.next k 0) a.command b.command r q
    (subst (λ x. ShowsSame x (entry_of (suc k) (slice_index_or p.next k 0) b.command q)) a.entry_is (subst (λ x. ShowsSame e x) b.entry_is same)) in
    let place : j ≡ k = (let x = parts.editors in omega (arith, x)) in
    let commands : a.command ≡ b.command = same_Some a.command b.command (sym a.command_is ∙ (ap (next_command scripts p) place ∙ b.command_is)) in
    a.entry_is ∙ (ap (λ x. entry_of (suc x) (slice_index_or p.next x 0) a.command r) place
    ∙ (ap (λ x. entry_of (suc k) (slice_index_or p.next k 0) x r) commands
    ∙ (ap (λ x. entry_of (suc k) (slice_index_or p.next k 0) b.command x) parts.replies ∙ sym b.entry_is)))
shows_same scripts p (step.Answer j r) step.Publish e f a b same =
    absurd (not_publication (suc j) (slice_index_or p.next j 0) p.count a.command r (subst (λ x. ShowsSame x (Publish p.count)) a.entry_is (subst (λ x. ShowsSame e x) b.1 same)))
shows_same scripts p step.Publish (step.Answer k q) e f a b same =
    absurd (no_publication (suc k) (slice_index_or p.next k 0) p.count b.command q (subst (λ x. ShowsSame x (entry_of (suc k) (slice_index_or p.next k 0) b.command q)) a.1 (subst (λ x. ShowsSame e x) b.entry_is same)))
shows_same scripts p step.Publish step.Publish e f a b same = a.1 ∙ sym b.1

line_then : (e : Entry) (s : List ℕ) → entry_line e ++ s ≡ entry_body e ++ 10 ∷ s
line_then e s = ap (λ t. t ++ s) (entry_ended e) ∙ append_assoc (entry_body e) (10 ∷ []) s

-- so a line tells which entry came
pub one_step : (scripts : List (List Cmd)) (p : PresentValue) (s t : Step) (e f : Entry) (x y : List ℕ) → IsPresentWithin scripts p → IsLastWithin p
    → IsStep scripts p s e → IsStep scripts p t f → entry_line e ++ x ≡ entry_line f ++ y → e ≡ f
one_step scripts p s t e f x y few last a b same =
    let bodies = same_front 10 (entry_body e) (entry_body f) x y (entry_lacks e) (entry_lacks f) (sym (line_then e x) ∙ (same ∙ line_then f y)) in
    shows_same scripts p s t e f a b (entry_same e f (step_within scripts p s e few last a) (step_within scripts p t f few last b) bodies.0)
