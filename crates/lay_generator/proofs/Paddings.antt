-- Each list of edits of a generated run sets a padding on blocks of sections of one editor, which no other editor changes.
use Rattle.std.proofs.Common.{◌≡◌, ℕ, zero, suc, ◌+◌, ◌-◌, ◌*◌, ◌/◌, ◌%◌, ◌<◌, ◌≤◌, true, List, [], ◌∷◌, drop, length, flat_map, slice_index_or, refl, subst, arith, inl, inr, All}
use Rattle.std.specs.List.{filter, range_with_len}
use Rattle.std.proofs.lemmas.Bool.{cases_eq, ne_eqb}
use Rattle.std.proofs.lemmas.List.Elements.{All-append, All-cons, All-drop, All-head, All-map, All-nil, All-tail, All-take}
use Rattle.lay_style.specs.Values.{Declaration}
use Rattle.lay_doc.specs.declared.edit.Edit.{Edit}
use Rattle.lay_doc.specs.declared.edit.Edit.TheVariants.{SetStyle}
use Rattle.lay_history.specs.declared.edits.command.Cmd.{Cmd}
use Rattle.lay_history.specs.declared.edits.command.Cmd.TheVariants.{Edits, Sync}
use Rattle.lay_history.specs.Calls.{script_calls}
use Rattle.lay_generator.specs.Draws.{next}
use Rattle.lay_generator.specs.Nodes.{id}
use Rattle.lay_generator.specs.Commands.{batch_at, batch_size, batches, is_section_of, set_paddings, script, script_end, scripts, sections_of, set_padding}
use Rattle.lay_generator.specs.LastDocuments.{list_of_command, lists_of}
use Rattle.lay_generator.proofs.EditorOrder.{IsGoodCall}
use Rattle.lay_generator.proofs.Steps.{by_bool}

-- one of so many sections, which the editor changes
pub record IsOwn (size editor section : ℕ) : Type 0 where
  pub within : section < size
  pub own : section % 4 + 1 ≡ editor

-- an edit of the declarations of such a section's block
pub record IsPadding (size editor : ℕ) (e : Edit) : Type 0 where
  pub section : ℕ
  pub owned : IsOwn size editor section
  pub decl : Declaration
  pub is : e ≡ SetStyle (id (4 + 4 * section)) decl

abbrev pub ArePaddings : ℕ → ℕ → List Edit → Type 0
ArePaddings size editor edits = All (IsPadding size editor) edits

-- the paddings of some editor
abbrev pub OfOne : ℕ → List Edit → Type 0
OfOne size edits = (editor : ℕ) × ArePaddings size editor edits

is_own : (size editor section : ℕ) → 1 ≤ editor → section < size → is_section_of editor section ≡ true → IsOwn size editor section
is_own size editor section some within is = elim (cases_eq (section % 4) (editor - 1)) [
  | inl same ↦ record { within = within; own = omega (arith, some, same) }
  | inr other ↦ (let no = ne_eqb (section % 4) (editor - 1) other in absurd cc)
]

owned_sections : (size editor a n : ℕ) → 1 ≤ editor → a + n ≤ size → All (IsOwn size editor) (filter (is_section_of editor) (range_with_len a n))
owned_sections size editor a zero some few = All-nil (IsOwn size editor)
owned_sections size editor a (suc n) some few =
    let rest = owned_sections size editor (a + 1) n some (omega (arith, few)) in
    by_bool (is_section_of editor a)
    (λ t. rw t (All-cons (IsOwn size editor) a (filter (is_section_of editor) (range_with_len (a + 1) n)) (is_own size editor a some (omega (arith, few)) t) rest))
    (λ f. rw f rest)

are_paddings : (size editor : ℕ) (sections : List ℕ) (state : ℕ) → All (IsOwn size editor) sections → ArePaddings size editor (set_paddings sections state)
are_paddings size editor [] state all = All-nil (IsPadding size editor)
are_paddings size editor (s ∷ ss) state all =
    All-cons (IsPadding size editor) (set_padding s state) (set_paddings ss (next state))
    (record { section = s; owned = All-head (IsOwn size editor) s ss all; decl = _; is = refl })
    (are_paddings size editor ss (next state) (All-tail (IsOwn size editor) s ss all))

-- the lists that a command of this editor gives
abbrev Gives : ℕ → ℕ → Cmd → Type 0
Gives size editor c = All (ArePaddings size editor) (list_of_command c)

script_gives : (size editor state : ℕ) → 1 ≤ editor → All (Gives size editor) (script size editor state)
script_gives size editor state some =
    All-append (Gives size editor) (batches edits) (Sync ∷ [])
    (All-map (Gives size editor) (λ k. Edits (batch_at edits k)) (range_with_len 0 ((length edits + (batch_size - 1)) / batch_size)) (λ k d lt. batch _))
    (All-cons (Gives size editor) Sync [] (All-nil (ArePaddings size editor)) (All-nil (Gives size editor)))
  where
    edits : List Edit
    edits = set_paddings (sections_of size editor) state

    each : ArePaddings size editor edits
    each = are_paddings size editor (sections_of size editor) state (owned_sections size editor 0 size some (omega arith))

    batch : (k : ℕ) → Gives size editor (Edits (batch_at edits k))
    batch k =
        All-cons (ArePaddings size editor) (batch_at edits k) []
        (All-take (IsPadding size editor) batch_size (drop (batch_size * k) edits) (All-drop (IsPadding size editor) (batch_size * k) edits each))
        (All-nil (ArePaddings size editor))

given_by : (P : List Edit → Type 0) (script : List Cmd) → All (λ c. All P (list_of_command c)) script → All P (flat_map list_of_command script)
given_by P [] all = All-nil P
given_by P (c ∷ cs) all =
    All-append P (list_of_command c) (flat_map list_of_command cs) (All-head (λ x. All P (list_of_command x)) c cs all) (given_by P cs (All-tail (λ x. All P (list_of_command x)) c cs all))

of_one : (size editor : ℕ) (lists : List (List Edit)) → All (ArePaddings size editor) lists → All (OfOne size) lists
of_one size editor lists all = λ k d lt. (editor, all k d lt)

-- each list of the scripts is of some editor
pub each_of_one : (size n editor state : ℕ) → 1 ≤ editor → All (OfOne size) (lists_of (scripts size n editor state))
each_of_one size zero editor state some = All-nil (OfOne size)
each_of_one size (suc n) editor state some =
    All-append (OfOne size) (flat_map list_of_command (script size editor state)) (lists_of (scripts size n (editor + 1) (script_end size editor state)))
    (of_one size editor (flat_map list_of_command (script size editor state)) (given_by (ArePaddings size editor) (script size editor state) (script_gives size editor state some)))
    (each_of_one size n (editor + 1) (script_end size editor state) (omega arith))

-- the script at a place gives lists of its editor
scripts_give : (size n editor state place : ℕ) → 1 ≤ editor → All (Gives size (editor + place)) (slice_index_or (scripts size n editor state) place [])
scripts_give size zero editor state place some = All-nil (Gives size (editor + place))
scripts_give size (suc n) editor state zero some =
    let same : editor ≡ editor + 0 = omega arith in
    subst (λ e. All (Gives size e) (script size editor state)) same (script_gives size editor state some)
scripts_give size (suc n) editor state (suc place) some =
    let same : editor + 1 + place ≡ editor + suc place = omega arith in
    subst (λ e. All (Gives size e) (slice_index_or (scripts size n (editor + 1) (script_end size editor state)) place [])) same
    (scripts_give size n (editor + 1) (script_end size editor state) place (omega arith))

calls_give : (size editor index : ℕ) (script : List Cmd) → All (Gives size editor) script → All (IsGoodCall (ArePaddings size)) (script_calls editor index script)
calls_give size editor index [] all = All-nil (IsGoodCall (ArePaddings size))
calls_give size editor index (c ∷ cs) all =
    All-cons (IsGoodCall (ArePaddings size)) (record { editor = editor; index = index; command = c }) (script_calls editor (index + 1) cs)
    (All-head (Gives size editor) c cs all) (calls_give size editor (index + 1) cs (All-tail (Gives size editor) c cs all))

-- and so do the calls that answer it
pub script_calls_give : (size state place : ℕ) → All (IsGoodCall (ArePaddings size)) (script_calls (suc place) 0 (slice_index_or (scripts size 4 1 state) place []))
script_calls_give size state place =
    let same : 1 + place ≡ suc place = omega arith in
    calls_give size (suc place) 0 (slice_index_or (scripts size 4 1 state) place [])
    (subst (λ e. All (Gives size e) (slice_index_or (scripts size 4 1 state) place [])) same (scripts_give size 4 1 state place (omega arith)))
