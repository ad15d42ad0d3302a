-- What the calls of editors do one after another, they do editor after editor too, where lists of edits of different editors come to the
-- same whichever is first.
use Rattle.std.proofs.Common.{◌≡◌, ℕ, suc, ◌+◌, ◌-◌, ◌<◌, ◌==◌, List, [], ◌∷◌, fold, flat_map, slice_index_or, if◌then◌else◌, refl, sym, ap, ◌∙◌, subst, arith, inl, inr, All}
use Rattle.std.proofs.lemmas.Bool.{cases_eq, cases_lt, eq-eqb, ne_eqb}
use Rattle.std.proofs.lemmas.List.Elements.{All-cons, All-head, All-nil, All-tail}
use Rattle.std.proofs.lemmas.List.Sums.{fold-append}
use Rattle.lay_doc.specs.declared.edit.Edit.{Edit}
use Rattle.lay_history.specs.declared.edits.command.Cmd.{Cmd}
use Rattle.lay_history.specs.declared.edits.command.Cmd.TheVariants.{Edits, Latest, Sync}
use Rattle.lay_history.specs.Calls.{Call, calls_of, script_calls}
use Rattle.lay_generator.specs.LastDocuments.{list_of_command, lists_of}

-- the calls that aren't this editor's
abbrev unless_of : ℕ → Call → List Call
unless_of editor c = if c.editor == editor then [] else c ∷ []

abbrev others : ℕ → List Call → List Call
others editor cs = flat_map (unless_of editor) cs

own_taken : (editor : ℕ) (c : Call) (cs : List Call) → c.editor ≡ editor → calls_of editor (c ∷ cs) ≡ c ∷ calls_of editor cs
own_taken editor c cs own = let t = eq-eqb c.editor editor own in rw t refl

own_left : (editor : ℕ) (c : Call) (cs : List Call) → c.editor ≡ editor → others editor (c ∷ cs) ≡ others editor cs
own_left editor c cs own = let t = eq-eqb c.editor editor own in rw t refl

other_left : (editor : ℕ) (c : Call) (cs : List Call) → (c.editor ≡ editor → ⊥) → calls_of editor (c ∷ cs) ≡ calls_of editor cs
other_left editor c cs other = let t = ne_eqb c.editor editor other in rw t refl

other_taken : (editor : ℕ) (c : Call) (cs : List Call) → (c.editor ≡ editor → ⊥) → others editor (c ∷ cs) ≡ c ∷ others editor cs
other_taken editor c cs other = let t = ne_eqb c.editor editor other in rw t refl

own_gone : (editor : ℕ) (cs : List Call) → calls_of editor (others editor cs) ≡ []
own_gone editor [] = refl
own_gone editor (c ∷ cs) = elim (cases_eq c.editor editor) [
  | inl own ↦ ap (calls_of editor) (own_left editor c cs own) ∙ own_gone editor cs
  | inr other ↦ ap (calls_of editor) (other_taken editor c cs other) ∙ (other_left editor c (others editor cs) other ∙ own_gone editor cs)
]

others_stay : (editor e : ℕ) (cs : List Call) → (editor ≡ e → ⊥) → calls_of e (others editor cs) ≡ calls_of e cs
others_stay editor e [] apart = refl
others_stay editor e (c ∷ cs) apart = elim (cases_eq c.editor editor) [
  | inl own ↦ ap (calls_of e) (own_left editor c cs own) ∙ (others_stay editor e cs apart ∙ sym (other_left e c cs (λ same. apart (sym own ∙ same))))
  | inr other ↦ ap (calls_of e) (other_taken editor c cs other) ∙ elim (cases_eq c.editor e) [
    | inl its ↦ own_taken e c (others editor cs) its ∙ (ap (λ xs. c ∷ xs) (others_stay editor e cs apart) ∙ sym (own_taken e c cs its))
    | inr not_its ↦ other_left e c (others editor cs) not_its ∙ (others_stay editor e cs apart ∙ sym (other_left e c cs not_its))
  ]
]

not_own : (c : Call) (cs : List Call) → calls_of c.editor (c ∷ cs) ≡ [] → ⊥
not_own c cs none = let e = sym (own_taken c.editor c cs refl) ∙ none in cc

-- where no editor has one, there is no call
no_calls : (cs : List Call) → ((editor : ℕ) → calls_of editor cs ≡ []) → cs ≡ []
no_calls [] none = refl
no_calls (c ∷ cs) none = absurd (not_own c cs (none c.editor))

-- the lists of edits of calls, in order
abbrev pub given : List Call → List (List Edit)
given cs = flat_map (λ c. list_of_command c.command) cs

-- a call each of whose lists of edits is good for its editor
abbrev pub IsGoodCall : (ℕ → List Edit → Type 0) → Call → Type 0
IsGoodCall IsGood c = All (IsGood c.editor) (list_of_command c.command)

good_others : (P : Call → Type 0) (editor : ℕ) (cs : List Call) → All P cs → All P (others editor cs)
good_others P editor [] all = All-nil P
good_others P editor (c ∷ cs) all = elim (cases_eq c.editor editor) [
  | inl own ↦ subst (All P) (sym (own_left editor c cs own)) (good_others P editor cs (All-tail P c cs all))
  | inr other ↦ subst (All P) (sym (other_taken editor c cs other))
      (All-cons P c (others editor cs) (All-head P c cs all) (good_others P editor cs (All-tail P c cs all)))
]

-- what is good for each editor is good for all
pub good_calls : (P : Call → Type 0) (cs : List Call) → ((editor : ℕ) → All P (calls_of editor cs)) → All P cs
good_calls P [] each = All-nil P
good_calls P (c ∷ cs) each =
    All-cons P c cs (All-head P c (calls_of c.editor cs) (subst (All P) (own_taken c.editor c cs refl) (each c.editor))) (good_calls P cs rest)
  where
    rest : (editor : ℕ) → All P (calls_of editor cs)
    rest editor = elim (cases_eq c.editor editor) [
      | inl own ↦ All-tail P c (calls_of editor cs) (subst (All P) (own_taken editor c cs own) (each editor))
      | inr other ↦ subst (All P) (other_left editor c cs other) (each editor)
    ]

module _ {D : Type 0} (step : D → List Edit → D) (IsGood : ℕ → List Edit → Type 0)
    (exchanged : (d : D) (a b : ℕ) (xs ys : List Edit) → IsGood a xs → IsGood b ys → (a ≡ b → ⊥) → step (step d xs) ys ≡ step (step d ys) xs) where
  abbrev called : D → Call → D
  called d c = fold step d (list_of_command c.command)

  commands_exchanged : (d : D) (a b : ℕ) (x y : Cmd) → All (IsGood a) (list_of_command x) → All (IsGood b) (list_of_command y) → (a ≡ b → ⊥)
      → fold step (fold step d (list_of_command x)) (list_of_command y) ≡ fold step (fold step d (list_of_command y)) (list_of_command x)
  commands_exchanged d a b (Edits xs) (Edits ys) good_x good_y apart =
      exchanged d a b xs ys (All-head (IsGood a) xs [] good_x) (All-head (IsGood b) ys [] good_y) apart
  commands_exchanged d a b (Edits xs) Latest good_x good_y apart = refl
  commands_exchanged d a b (Edits xs) Sync good_x good_y apart = refl
  commands_exchanged d a b Latest y good_x good_y apart = refl
  commands_exchanged d a b Sync y good_x good_y apart = refl

  -- a call behind calls of another editor, or before them
  passed : (d : D) (x : Call) (editor : ℕ) (cs : List Call) → IsGoodCall IsGood x → All (IsGoodCall IsGood) cs → (x.editor ≡ editor → ⊥)
      → fold called (called d x) (calls_of editor cs) ≡ called (fold called d (calls_of editor cs)) x
  passed d x editor [] good all apart = refl
  passed d x editor (c ∷ cs) good all apart = elim (cases_eq c.editor editor) [
    | inl own ↦ rw (own_taken editor c cs own) (
        ap (λ z. fold called z (calls_of editor cs))
        (commands_exchanged d x.editor c.editor x.command c.command good (All-head (IsGoodCall IsGood) c cs all) (λ same. apart (same ∙ own)))
        ∙ passed (called d c) x editor cs good (All-tail (IsGoodCall IsGood) c cs all) apart)
    | inr other ↦ rw (other_left editor c cs other) (passed d x editor cs good (All-tail (IsGoodCall IsGood) c cs all) apart)
  ]

  -- an editor's calls first
  own_in_front : (d : D) (editor : ℕ) (cs : List Call) → All (IsGoodCall IsGood) cs → fold called d cs ≡ fold called (fold called d (calls_of editor cs)) (others editor cs)
  own_in_front d editor [] all = refl
  own_in_front d editor (c ∷ cs) all = elim (cases_eq c.editor editor) [
    | inl own ↦ rw (own_taken editor c cs own, own_left editor c cs own) (own_in_front (called d c) editor cs (All-tail (IsGoodCall IsGood) c cs all))
    | inr other ↦ rw (other_left editor c cs other, other_taken editor c cs other) (
        own_in_front (called d c) editor cs (All-tail (IsGoodCall IsGood) c cs all)
        ∙ ap (λ z. fold called z (others editor cs))
        (passed d c editor cs (All-head (IsGoodCall IsGood) c cs all) (All-tail (IsGoodCall IsGood) c cs all) other))
  ]

  -- the lists of edits of a script
  script_given : (d : D) (editor index : ℕ) (script : List Cmd) → fold called d (script_calls editor index script) ≡ fold step d (flat_map list_of_command script)
  script_given d editor index [] = refl
  script_given d editor index (Edits xs ∷ script) = script_given (step d xs) editor (index + 1) script
  script_given d editor index (Latest ∷ script) = script_given d editor (index + 1) script
  script_given d editor index (Sync ∷ script) = script_given d editor (index + 1) script

  one_after_another : (d : D) (cs : List Call) → fold called d cs ≡ fold step d (given cs)
  one_after_another d [] = refl
  one_after_another d (c ∷ cs) = one_after_another (called d c) cs ∙ sym (fold-append step d (list_of_command c.command) (given cs))

  editor_by_editor : (scripts : List (List Cmd)) (k : ℕ) (cs : List Call) (d : D) → All (IsGoodCall IsGood) cs
      → ((editor : ℕ) → editor < k → calls_of editor cs ≡ []) → ((j : ℕ) → calls_of (k + j) cs ≡ script_calls (k + j) 0 (slice_index_or scripts j []))
      → fold called d cs ≡ fold step d (lists_of scripts)
  editor_by_editor [] k cs d all before own = ap (fold called d) (no_calls cs (λ editor. elim (cases_lt editor k) [
    | inl less ↦ before editor less
    | inr from ↦ (let j = editor - k in let same : k + j ≡ editor = omega (arith, from) in sym (ap (λ n. calls_of n cs) same) ∙ own j)
  ]))
  editor_by_editor (s ∷ ss) k cs d all before own =
      own_in_front d k cs all
      ∙ (ap (λ xs. fold called (fold called d xs) (others k cs)) first
      ∙ (ap (λ z. fold called z (others k cs)) (script_given d k 0 s)
      ∙ (editor_by_editor ss (k + 1) (others k cs) (fold step d (flat_map list_of_command s)) (good_others (IsGoodCall IsGood) k cs all) earlier later
      ∙ sym (fold-append step d (flat_map list_of_command s) (lists_of ss)))))
    where
      first : calls_of k cs ≡ script_calls k 0 s
      first = let same : k + 0 ≡ k = omega arith in subst (λ n. calls_of n cs ≡ script_calls n 0 s) same (own 0)

      earlier : (editor : ℕ) → editor < k + 1 → calls_of editor (others k cs) ≡ []
      earlier editor less = elim (cases_eq k editor) [
        | inl same ↦ subst (λ n. calls_of n (others k cs) ≡ []) same (own_gone k cs)
        | inr apart ↦ others_stay k editor cs apart ∙ before editor (omega (arith, less, apart))
      ]

      later : (j : ℕ) → calls_of (k + 1 + j) (others k cs) ≡ script_calls (k + 1 + j) 0 (slice_index_or ss j [])
      later j =
          let same : k + suc j ≡ k + 1 + j = omega arith in
          others_stay k (k + 1 + j) cs (λ e. omega (arith, e)) ∙ subst (λ n. calls_of n cs ≡ script_calls n 0 (slice_index_or ss j [])) same (own (suc j))

  -- the calls that answer scripts come to what the scripts' lists do, editor after editor
  pub by_editors : (scripts : List (List Cmd)) (cs : List Call) (d : D) → All (IsGoodCall IsGood) cs → calls_of 0 cs ≡ []
      → ((j : ℕ) → calls_of (suc j) cs ≡ script_calls (suc j) 0 (slice_index_or scripts j [])) → fold step d (given cs) ≡ fold step d (lists_of scripts)
  by_editors scripts cs d all none own =
      sym (one_after_another d cs)
      ∙ editor_by_editor scripts 1 cs d all
      (λ editor less. let same : 0 ≡ editor = omega (arith, less) in subst (λ n. calls_of n cs ≡ []) same none)
      (λ j. let same : suc j ≡ 1 + j = omega arith in subst (λ n. calls_of n cs ≡ script_calls n 0 (slice_index_or scripts j [])) same (own j))
