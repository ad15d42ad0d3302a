-- Each text is a sheet: what is left of a text gets shorter with each piece.
use Rattle.std.proofs.Common.{◌≡◌, ◌∙◌, ℕ, zero, suc, ◌+◌, ◌-◌, ◌<◌, ◌≤◌, ◌⊎◌, inl, inr, List, [], ◌∷◌, Bool, true, false, Option, Some, None, length, drop, refl, sym, ap, subst, arith}
use Rattle.std.specs.Prelude.{◌==◌, ◌&&◌, ◌||◌, if◌then◌else◌}
use Rattle.std.specs.Char.{is_ascii_whitespace}
use Rattle.std.specs.List.{prefix_len}
use Rattle.std.proofs.lemmas.Bool.{cases_Bool, cases_lt}
use Rattle.std.proofs.lemmas.Option.{none-some}
use Rattle.lay_values.specs.Numbers.{leading, behind}
use Rattle.lay_values.specs.Reading.{trimmed, without_front}
use Rattle.lay_sheet.specs.declared.selector.Simple.{Simple}
use Rattle.lay_sheet.specs.declared.selector.Joint.{Joint}
use Rattle.lay_sheet.specs.declared.selector.Joint.TheVariants.{Descendant}
use Rattle.lay_sheet.specs.declared.selector.Step.{Step}
use Rattle.lay_sheet.specs.declared.declaration.SheetDecl.{SheetDecl}
use Rattle.lay_sheet.specs.Lists.{with_found, preceded}
use Rattle.lay_sheet.specs.Pieces.{is_other, block_to, behind_block, behind_at_rule, part_to, behind_part}
use Rattle.lay_sheet.specs.PlainText.{plain_text}
use Rattle.lay_sheet.specs.SelectorTexts.{AreSteps, AreSelectors, IsSelectorText, no_step, last_step, more_steps, no_selector, last_selector, more_selectors, simple_of, joint_of, behind_joint, behind_sign, behind_simple, is_name_part}
use Rattle.lay_sheet.specs.Declarations.{AreDeclarations, declaration_of_part, no_part, one_part}
use Rattle.lay_sheet.specs.Sheets.{RuleValue, IsRuleSet, AreStatements, kept, ignored, end, space, at_rule, unopened, rule_set}
use Rattle.lay_sheet.specs.Laws.{SomeSheet}

-- nothing that is left of a text is longer than it
behind_less : (kind : ℕ → Bool) (text : List ℕ) → length (behind kind text) ≤ length text
behind_less kind [] = omega arith
behind_less kind (b ∷ bs) = of_kind (behind_less kind bs) (cases_Bool (kind b))
  where
    of_kind : length (behind kind bs) ≤ length bs → (kind b ≡ true) ⊎ (kind b ≡ false) → length (behind kind (b ∷ bs)) ≤ length (b ∷ bs)
    of_kind h (inl k) = rw k (omega (arith, h))
    of_kind h (inr k) = rw k (omega arith)

drop_less : (n : ℕ) (text : List ℕ) → length (drop n text) ≤ length text
drop_less zero text = omega arith
drop_less (suc n) [] = omega arith
drop_less (suc n) (b ∷ bs) = let h = drop_less n bs in omega (arith, h)

block_less : (depth : ℕ) (text : List ℕ) → length (behind_block depth text) ≤ length text
block_less depth [] = omega arith
block_less depth (b ∷ bs) = of_open (λ d. block_less d bs) (cases_Bool (b == 123)) (cases_Bool (b == 125)) (cases_Bool (depth == 0))
  where
    of_open : ((d : ℕ) → length (behind_block d bs) ≤ length bs) → ((b == 123) ≡ true) ⊎ ((b == 123) ≡ false) → ((b == 125) ≡ true) ⊎ ((b == 125) ≡ false) → ((depth == 0) ≡ true) ⊎ ((depth == 0) ≡ false) →
        length (behind_block depth (b ∷ bs)) ≤ length (b ∷ bs)
    of_open on (inl o) c z = let h = on (depth + 1) in rw o (omega (arith, h))
    of_open on (inr o) (inl c) (inl z) = rw (o, c, z) (omega arith)
    of_open on (inr o) (inl c) (inr z) = let h = on (depth - 1) in rw (o, c, z) (omega (arith, h))
    of_open on (inr o) (inr c) z = let h = on depth in rw (o, c) (omega (arith, h))

at_rule_less : (text : List ℕ) → length (behind_at_rule text) ≤ length text
at_rule_less [] = omega arith
at_rule_less (b ∷ bs) = of_byte (at_rule_less bs) (cases_Bool (b == 59)) (cases_Bool (b == 123))
  where
    of_byte : length (behind_at_rule bs) ≤ length bs → ((b == 59) ≡ true) ⊎ ((b == 59) ≡ false) → ((b == 123) ≡ true) ⊎ ((b == 123) ≡ false) → length (behind_at_rule (b ∷ bs)) ≤ length (b ∷ bs)
    of_byte h (inl s) o = rw s (omega arith)
    of_byte h (inr s) (inl o) = let k = block_less 0 bs in rw (s, o) (omega (arith, k))
    of_byte h (inr s) (inr o) = rw (s, o) (omega (arith, h))

-- a part has its first byte at least
part_step : (depth b : ℕ) (bs : List ℕ) → ((d : ℕ) → length (behind_part d bs) ≤ length bs) → length (behind_part depth (b ∷ bs)) ≤ length bs
part_step depth b bs on = of_byte (cases_Bool (b == 123)) (cases_Bool (b == 125)) (cases_Bool ((b == 59) && (depth == 0)))
  where
    of_byte : ((b == 123) ≡ true) ⊎ ((b == 123) ≡ false) → ((b == 125) ≡ true) ⊎ ((b == 125) ≡ false) →
        (((b == 59) && (depth == 0)) ≡ true) ⊎ (((b == 59) && (depth == 0)) ≡ false) → length (behind_part depth (b ∷ bs)) ≤ length bs
    of_byte (inl o) c s = rw o (on (depth + 1))
    of_byte (inr o) (inl c) s = rw (o, c) (on (depth - 1))
    of_byte (inr o) (inr c) (inl s) = rw (o, c, s) (omega arith)
    of_byte (inr o) (inr c) (inr s) = rw (o, c, s) (on depth)

part_less : (depth : ℕ) (text : List ℕ) → length (behind_part depth text) ≤ length text
part_less depth [] = omega arith
part_less depth (b ∷ bs) = let h = part_step depth b bs (λ d. part_less d bs) in omega (arith, h)

part_shorter : (depth b : ℕ) (bs : List ℕ) → length (behind_part depth (b ∷ bs)) ≤ length bs
part_shorter depth b bs = part_step depth b bs (λ d. part_less d bs)

simple_shorter : (b : ℕ) (bs : List ℕ) → length (behind_simple (b ∷ bs)) ≤ length bs
simple_shorter b bs = of_byte (cases_Bool (b == 42))
  where
    of_byte : ((b == 42) ≡ true) ⊎ ((b == 42) ≡ false) → length (behind_simple (b ∷ bs)) ≤ length bs
    of_byte (inl s) = rw s (omega arith)
    of_byte (inr s) = rw s (behind_less is_name_part bs)

front_less : (text : List ℕ) → length (without_front text) ≤ length text
front_less text = drop_less (prefix_len is_ascii_whitespace text) text

sign_less : (text : List ℕ) → length (behind_sign text) ≤ length text
sign_less [] = omega arith
sign_less (b ∷ bs) = of_byte (cases_Bool ((b == 62) || (b == 43)))
  where
    of_byte : (((b == 62) || (b == 43)) ≡ true) ⊎ (((b == 62) || (b == 43)) ≡ false) → length (behind_sign (b ∷ bs)) ≤ length (b ∷ bs)
    of_byte (inl s) = let h = front_less bs in rw s (omega (arith, h))
    of_byte (inr s) = rw s (omega arith)

joint_less : (text : List ℕ) → length (behind_joint text) ≤ length text
joint_less text =
    let h = sign_less (without_front text) in
    let g = front_less text in
    omega (arith, h, g)

one_less : (text : List ℕ) → 0 < length text → length (drop 1 text) + 1 ≤ length text
one_less [] some = absurd (omega (arith, some))
one_less (b ∷ bs) some = omega arith

abbrev step_at : Joint → Simple → Step
step_at joint simple = record { joint = joint; simple = simple }

-- what the steps behind the first simple selector of a text are
abbrev StepsBehind : List ℕ → Type 0
StepsBehind text = (found : Option (List Step)) × AreSteps (joint_of (behind_simple text)) (behind_joint (behind_simple text)) found

some_steps : (n : ℕ) (joint : Joint) (text : List ℕ) → length text ≤ n → (found : Option (List Step)) × AreSteps joint text found
some_steps n joint [] h = (None, no_step joint [] refl)
some_steps zero joint (b ∷ bs) h = absurd (omega (arith, h))
some_steps (suc n) joint (b ∷ bs) h =
    of_simple (some_steps n (joint_of (behind_simple (b ∷ bs))) (behind_joint (behind_simple (b ∷ bs))) left) (simple_of joint (b ∷ bs)) refl
  where
    left : length (behind_joint (behind_simple (b ∷ bs))) ≤ n
    left = let j = joint_less (behind_simple (b ∷ bs)) in let s = simple_shorter b bs in omega (arith, h, j, s)

    of_rest : StepsBehind (b ∷ bs) → (simple : Simple) → simple_of joint (b ∷ bs) ≡ Some simple → (0 < length (behind_simple (b ∷ bs))) ⊎ (length (behind_simple (b ∷ bs)) ≤ 0) →
        (found : Option (List Step)) × AreSteps joint (b ∷ bs) found
    of_rest rest simple e (inl some) = (preceded (step_at joint simple) rest.0, more_steps joint (b ∷ bs) simple rest.0 e some rest.1)
    of_rest rest simple e (inr none) = (Some (step_at joint simple ∷ []), last_step joint (b ∷ bs) simple e (omega (arith, none)))

    of_simple : StepsBehind (b ∷ bs) → (simple : Option Simple) → simple_of joint (b ∷ bs) ≡ simple → (found : Option (List Step)) × AreSteps joint (b ∷ bs) found
    of_simple rest None e = (None, no_step joint (b ∷ bs) e)
    of_simple rest (Some simple) e = of_rest rest simple e (cases_lt 0 (length (behind_simple (b ∷ bs))))

some_selector : (text : List ℕ) → (found : Option (List Step)) × IsSelectorText text found
some_selector text = some_steps (length (trimmed text)) Descendant (trimmed text) (omega arith)

-- the selectors behind a comma, where there is one
abbrev MoreSelectors : List ℕ → Type 0
MoreSelectors text = 0 < length (behind (is_other 44) text) → (found : Option (List (List Step))) × AreSelectors (drop 1 (behind (is_other 44) text)) found

of_first : (text : List ℕ) → MoreSelectors text → ((found : Option (List Step)) × IsSelectorText (leading (is_other 44) text) found) → (found : Option (List (List Step))) × AreSelectors text found
of_first text more (None, p) = (None, no_selector text p)
of_first text more (Some selector, p) = of_rest (cases_lt 0 (length (behind (is_other 44) text)))
  where
    of_rest : (0 < length (behind (is_other 44) text)) ⊎ (length (behind (is_other 44) text) ≤ 0) → (found : Option (List (List Step))) × AreSelectors text found
    of_rest (inl some) = let rest = more some in (preceded selector rest.0, more_selectors text selector rest.0 p some rest.1)
    of_rest (inr none) = (Some (selector ∷ []), last_selector text selector p (omega (arith, none)))

behind_comma : (n : ℕ) (text : List ℕ) → length text ≤ suc n → 0 < length (behind (is_other 44) text) → length (drop 1 (behind (is_other 44) text)) ≤ n
behind_comma n text h some =
    let l = behind_less (is_other 44) text in
    let o = one_less (behind (is_other 44) text) some in
    omega (arith, h, l, o)

no_comma : (text : List ℕ) → length text ≤ 0 → 0 < length (behind (is_other 44) text) → ⊥
no_comma text h some = let l = behind_less (is_other 44) text in absurd (omega (arith, h, l, some))

some_selectors : (n : ℕ) (text : List ℕ) → length text ≤ n → (found : Option (List (List Step))) × AreSelectors text found
some_selectors zero text h = of_first text (λ some. absurd (no_comma text h some)) (some_selector (leading (is_other 44) text))
some_selectors (suc n) text h =
    of_first text (λ some. some_selectors n (drop 1 (behind (is_other 44) text)) (behind_comma n text h some)) (some_selector (leading (is_other 44) text))

some_declarations : (n : ℕ) (block : List ℕ) → length block ≤ n → (decls : List SheetDecl) × AreDeclarations block decls
some_declarations n [] h = ([], no_part)
some_declarations zero (b ∷ bs) h = absurd (omega (arith, h))
some_declarations (suc n) (b ∷ bs) h =
    let s = part_shorter 0 b bs in
    let rest = some_declarations n (behind_part 0 (b ∷ bs)) (omega (arith, h, s)) in
    (with_found (declaration_of_part (part_to 0 (b ∷ bs))) rest.0, one_part b bs rest.0 rest.1)

some_rule_set : (prelude block : List ℕ) → (rule : Option RuleValue) × IsRuleSet prelude block rule
some_rule_set prelude block = of_selectors (some_selectors (length prelude) prelude (omega arith)) (some_declarations (length block) block (omega arith))
  where
    of_selectors : ((found : Option (List (List Step))) × AreSelectors prelude found) → ((decls : List SheetDecl) × AreDeclarations block decls) → (rule : Option RuleValue) × IsRuleSet prelude block rule
    of_selectors (None, p) d = (None, ignored prelude block p)
    of_selectors (Some selectors, p) d = (Some (record { selectors = selectors; decls = d.0 }), kept prelude block selectors d.0 p d.1)

some_statements : (n : ℕ) (text : List ℕ) → length text ≤ n → (rules : List RuleValue) × AreStatements text rules
some_statements n [] h = ([], end)
some_statements zero (b ∷ bs) h = absurd (omega (arith, h))
some_statements (suc n) (b ∷ bs) h =
    of_byte (λ t l. some_statements n t l) (cases_Bool (is_ascii_whitespace b)) (cases_Bool (b == 64)) (cases_lt 0 (length (behind (is_other 123) (b ∷ bs))))
  where
    of_byte : ((text : List ℕ) → length text ≤ n → (rules : List RuleValue) × AreStatements text rules) →
        (is_ascii_whitespace b ≡ true) ⊎ (is_ascii_whitespace b ≡ false) → ((b == 64) ≡ true) ⊎ ((b == 64) ≡ false) →
        (0 < length (behind (is_other 123) (b ∷ bs))) ⊎ (length (behind (is_other 123) (b ∷ bs)) ≤ 0) → (rules : List RuleValue) × AreStatements (b ∷ bs) rules
    of_byte on (inl w) i o = let rest = on bs (omega (arith, h)) in (rest.0, space b bs rest.0 w rest.1)
    of_byte on (inr w) (inl i) o =
        let l = at_rule_less bs in
        let rest = on (behind_at_rule bs) (omega (arith, h, l)) in
        (rest.0, at_rule b bs rest.0 w i rest.1)
    of_byte on (inr w) (inr i) (inr none) = ([], unopened b bs w i (omega (arith, none)))
    of_byte on (inr w) (inr i) (inl some) =
        let inner = drop 1 (behind (is_other 123) (b ∷ bs)) in
        let l = behind_less (is_other 123) (b ∷ bs) in
        let o = one_less (behind (is_other 123) (b ∷ bs)) some in
        let k = block_less 0 inner in
        let rule = some_rule_set (leading (is_other 123) (b ∷ bs)) (block_to 0 inner) in
        let rest = on (behind_block 0 inner) (omega (arith, h, l, o, k)) in
        (with_found rule.0 rest.0, rule_set b bs rule.0 rest.0 w i some rule.1 rest.1)

pub some_sheet_lem : SomeSheet
some_sheet_lem text = some_statements (length (plain_text text)) (plain_text text) (omega arith)
