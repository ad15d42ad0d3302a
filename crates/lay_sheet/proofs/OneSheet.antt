-- A text is one sheet at most.
use Rattle.std.proofs.Common.{◌≡◌, ◌∙◌, ℕ, refl, sym, ap, List, [], ◌∷◌, Option, Some, None, arith, drop}
use Rattle.std.proofs.lemmas.Option.{none-some}
use Rattle.std.proofs.lemmas.Bool.{false≢true}
use Rattle.lay_values.specs.Numbers.{leading, behind}
use Rattle.lay_values.specs.Reading.{trimmed}
use Rattle.lay_sheet.specs.declared.selector.Simple.{Simple}
use Rattle.lay_sheet.specs.declared.selector.Joint.{Joint}
use Rattle.lay_sheet.specs.declared.selector.Joint.TheVariants.{Descendant}
use Rattle.lay_sheet.specs.declared.selector.Step.{Step}
use Rattle.lay_sheet.specs.declared.declaration.SheetDecl.{SheetDecl}
use Rattle.lay_sheet.specs.Lists.{with_found, preceded}
use Rattle.lay_sheet.specs.Pieces.{is_other, block_to, behind_block, behind_at_rule, part_to, behind_part}
use Rattle.lay_sheet.specs.PlainText.{plain_text}
use Rattle.lay_sheet.specs.SelectorTexts.{AreSteps, AreSelectors, no_step, last_step, more_steps, no_selector, last_selector, more_selectors, joint_of, behind_joint, behind_simple}
use Rattle.lay_sheet.specs.Declarations.{AreDeclarations, declaration_of_part, no_part, one_part}
use Rattle.lay_sheet.specs.Sheets.{RuleValue, IsRuleSet, AreStatements, kept, ignored, end, space, at_rule, unopened, rule_set}
use Rattle.lay_sheet.specs.Laws.{OneSheet}

abbrev step_at : Joint → Simple → Step
step_at joint simple = record { joint = joint; simple = simple }

one_steps : (joint : Joint) (text : List ℕ) (x y : Option (List Step)) → AreSteps joint text x → AreSteps joint text y → x ≡ y
one_steps joint text x y (no_step j-1 t-1 a) (no_step j-2 t-2 b) = refl
one_steps joint text x y (no_step j-1 t-1 a) (last_step j-2 t-2 s b e) = absurd (none-some s (sym a ∙ b))
one_steps joint text x y (no_step j-1 t-1 a) (more_steps j-2 t-2 s found b some rest) = absurd (none-some s (sym a ∙ b))
one_steps joint text x y (last_step j-1 t-1 r a d) (no_step j-2 t-2 b) = absurd (none-some r (sym b ∙ a))
one_steps joint text x y (last_step j-1 t-1 r a d) (last_step j-2 t-2 s b e) =
    let same : Some r ≡ Some s = sym a ∙ b in
    let q : r ≡ s = cc in
    ap (λ z. Some (step_at joint z ∷ [])) q
one_steps joint text x y (last_step j-1 t-1 r a d) (more_steps j-2 t-2 s found b some rest) = absurd (omega (arith, d, some))
one_steps joint text x y (more_steps j-1 t-1 r found-1 a some-1 rest-1) (no_step j-2 t-2 b) = absurd (none-some r (sym b ∙ a))
one_steps joint text x y (more_steps j-1 t-1 r found-1 a some-1 rest-1) (last_step j-2 t-2 s b e) = absurd (omega (arith, e, some-1))
one_steps joint text x y (more_steps j-1 t-1 r found-1 a some-1 rest-1) (more_steps j-2 t-2 s found-2 b some-2 rest-2) =
    let same : Some r ≡ Some s = sym a ∙ b in
    let q : r ≡ s = cc in
    let e = one_steps (joint_of (behind_simple text)) (behind_joint (behind_simple text)) found-1 found-2 rest-1 rest-2 in
    ap (λ z. preceded (step_at joint z) found-1) q ∙ ap (preceded (step_at joint s)) e

abbrev first_of_list : List ℕ → List ℕ
first_of_list text = trimmed (leading (is_other 44) text)

one_list : (text : List ℕ) (x y : Option (List (List Step))) → AreSelectors text x → AreSelectors text y → x ≡ y
one_list text x y (no_selector t-1 a) (no_selector t-2 b) = refl
one_list text x y (no_selector t-1 a) (last_selector t-2 s b e) = absurd (none-some s (one_steps Descendant (first_of_list text) None (Some s) a b))
one_list text x y (no_selector t-1 a) (more_selectors t-2 s found b some rest) = absurd (none-some s (one_steps Descendant (first_of_list text) None (Some s) a b))
one_list text x y (last_selector t-1 r a d) (no_selector t-2 b) = absurd (none-some r (one_steps Descendant (first_of_list text) None (Some r) b a))
one_list text x y (last_selector t-1 r a d) (last_selector t-2 s b e) =
    let same : Some r ≡ Some s = one_steps Descendant (first_of_list text) (Some r) (Some s) a b in
    let q : r ≡ s = cc in
    ap (λ z. Some (z ∷ [])) q
one_list text x y (last_selector t-1 r a d) (more_selectors t-2 s found b some rest) = absurd (omega (arith, d, some))
one_list text x y (more_selectors t-1 r found-1 a some-1 rest-1) (no_selector t-2 b) = absurd (none-some r (one_steps Descendant (first_of_list text) None (Some r) b a))
one_list text x y (more_selectors t-1 r found-1 a some-1 rest-1) (last_selector t-2 s b e) = absurd (omega (arith, e, some-1))
one_list text x y (more_selectors t-1 r found-1 a some-1 rest-1) (more_selectors t-2 s found-2 b some-2 rest-2) =
    let same : Some r ≡ Some s = one_steps Descendant (first_of_list text) (Some r) (Some s) a b in
    let q : r ≡ s = cc in
    let e = one_list (drop 1 (behind (is_other 44) text)) found-1 found-2 rest-1 rest-2 in
    ap (λ z. preceded z found-1) q ∙ ap (preceded s) e

one_block : (text : List ℕ) (x y : List SheetDecl) → AreDeclarations text x → AreDeclarations text y → x ≡ y
one_block text x y no_part no_part = refl
one_block text x y (one_part b-1 bs-1 xs p) (one_part b-2 bs-2 ys q) =
    ap (with_found (declaration_of_part (part_to 0 (b-1 ∷ bs-1)))) (one_block (behind_part 0 (b-1 ∷ bs-1)) xs ys p q)

one_rule : (prelude block : List ℕ) (x y : Option RuleValue) → IsRuleSet prelude block x → IsRuleSet prelude block y → x ≡ y
one_rule prelude block x y (kept p-1 b-1 ss xs a c) (kept p-2 b-2 ts ys b d) =
    let same : Some ss ≡ Some ts = one_list prelude (Some ss) (Some ts) a b in
    let q : ss ≡ ts = cc in
    let e : xs ≡ ys = one_block block xs ys c d in
    ap (λ z. Some (record { selectors = z; decls = xs })) q ∙ ap (λ z. Some (record { selectors = ts; decls = z })) e
one_rule prelude block x y (kept p-1 b-1 ss xs a c) (ignored p-2 b-2 b) = absurd (none-some ss (one_list prelude None (Some ss) b a))
one_rule prelude block x y (ignored p-1 b-1 a) (kept p-2 b-2 ts ys b d) = absurd (none-some ts (one_list prelude None (Some ts) a b))
one_rule prelude block x y (ignored p-1 b-1 a) (ignored p-2 b-2 b) = refl

pub one_text : (text : List ℕ) (x y : List RuleValue) → AreStatements text x → AreStatements text y → x ≡ y
one_text text x y end end = refl
one_text text x y (space b-1 bs-1 xs w p) (space b-2 bs-2 ys v q) = one_text bs-1 xs ys p q
one_text text x y (space b-1 bs-1 xs w p) (at_rule b-2 bs-2 ys v i q) = absurd (false≢true (sym v ∙ w))
one_text text x y (space b-1 bs-1 xs w p) (unopened b-2 bs-2 v i e) = absurd (false≢true (sym v ∙ w))
one_text text x y (space b-1 bs-1 xs w p) (rule_set b-2 bs-2 rule ys v i some s q) = absurd (false≢true (sym v ∙ w))
one_text text x y (at_rule b-1 bs-1 xs w h p) (space b-2 bs-2 ys v q) = absurd (false≢true (sym w ∙ v))
one_text text x y (at_rule b-1 bs-1 xs w h p) (at_rule b-2 bs-2 ys v i q) = one_text (behind_at_rule bs-1) xs ys p q
one_text text x y (at_rule b-1 bs-1 xs w h p) (unopened b-2 bs-2 v i e) = absurd (false≢true (sym i ∙ h))
one_text text x y (at_rule b-1 bs-1 xs w h p) (rule_set b-2 bs-2 rule ys v i some s q) = absurd (false≢true (sym i ∙ h))
one_text text x y (unopened b-1 bs-1 w h d) (space b-2 bs-2 ys v q) = absurd (false≢true (sym w ∙ v))
one_text text x y (unopened b-1 bs-1 w h d) (at_rule b-2 bs-2 ys v i q) = absurd (false≢true (sym h ∙ i))
one_text text x y (unopened b-1 bs-1 w h d) (unopened b-2 bs-2 v i e) = refl
one_text text x y (unopened b-1 bs-1 w h d) (rule_set b-2 bs-2 rule ys v i some s q) = absurd (omega (arith, d, some))
one_text text x y (rule_set b-1 bs-1 rule-1 xs w h some-1 r p) (space b-2 bs-2 ys v q) = absurd (false≢true (sym w ∙ v))
one_text text x y (rule_set b-1 bs-1 rule-1 xs w h some-1 r p) (at_rule b-2 bs-2 ys v i q) = absurd (false≢true (sym h ∙ i))
one_text text x y (rule_set b-1 bs-1 rule-1 xs w h some-1 r p) (unopened b-2 bs-2 v i e) = absurd (omega (arith, e, some-1))
one_text text x y (rule_set b-1 bs-1 rule-1 xs w h some-1 r p) (rule_set b-2 bs-2 rule-2 ys v i some-2 s q) =
    let inner = drop 1 (behind (is_other 123) (b-1 ∷ bs-1)) in
    let f : rule-1 ≡ rule-2 = one_rule (leading (is_other 123) (b-1 ∷ bs-1)) (block_to 0 inner) rule-1 rule-2 r s in
    let e : xs ≡ ys = one_text (behind_block 0 inner) xs ys p q in
    ap (λ z. with_found z xs) f ∙ ap (with_found rule-2) e

pub one_sheet_lem : OneSheet
one_sheet_lem text rules others p q = one_text (plain_text text) rules others p q
