-- What a loop has found of a text stands before what is found of the rest.
use Rattle.std.proofs.Common.{◌≡◌, ◌∙◌, ℕ, ◌<◌, List, [], ◌∷◌, ◌++◌, Option, Some, None, true, false, length, drop, sym, ap, subst, arith}
use Rattle.std.specs.Char.{is_ascii_whitespace}
use Rattle.std.specs.Prelude.{◌==◌, slice_index}
use Rattle.lay_values.specs.Numbers.{leading, behind}
use Rattle.lay_values.specs.Reading.{trimmed}
use Rattle.lay_sheet.specs.declared.selector.Simple.{Simple}
use Rattle.lay_sheet.specs.declared.selector.Joint.{Joint}
use Rattle.lay_sheet.specs.declared.selector.Joint.TheVariants.{Descendant}
use Rattle.lay_sheet.specs.declared.selector.Step.{Step}
use Rattle.lay_sheet.specs.declared.declaration.SheetDecl.{SheetDecl}
use Rattle.lay_sheet.specs.Lists.{with_found, preceded, continued}
use Rattle.lay_sheet.specs.Pieces.{is_other, block_to, behind_block, behind_at_rule, part_to, behind_part}
use Rattle.lay_sheet.specs.SelectorTexts.{AreSteps, AreSelectors, no_step, last_step, more_steps, no_selector, last_selector, more_selectors, IsSelectorText, simple_of, joint_of, behind_joint, behind_simple}
use Rattle.lay_sheet.specs.Declarations.{AreDeclarations, declaration_of_part, declared, weighed, before_important, no_part, one_part}
use Rattle.lay_sheet.specs.Sheets.{RuleValue, IsRuleSet, AreStatements, space, at_rule, unopened, rule_set, end}
use Rattle.std.proofs.lemmas.Grind.{common_steps}
use Rattle.std.proofs.lemmas.List.{append-nil}
use Rattle.lay_sheet.proofs.Fronts.{one_more, found_more}

abbrev pub step_at : Joint → Simple → Step
step_at joint simple = record { joint = joint; simple = simple }

-- the steps of a text continue those that are done
abbrev pub StepsGoOn : List ℕ → List Step → Joint → List ℕ → Type 0
StepsGoOn text done joint rest = (found : Option (List Step)) → AreSteps joint rest found → AreSteps Descendant text (continued done found)

module _ (text : List ℕ) (done : List Step) (joint : Joint) (rest : List ℕ) (so_far : StepsGoOn text done joint rest) where
  pub no_steps : simple_of joint rest ≡ None → AreSteps Descendant text None
  no_steps e = so_far None (no_step joint rest e)

  pub step_ends : (simple : Simple) (all : List Step) (behind_it : List ℕ) → simple_of joint rest ≡ Some simple → behind_it ≡ behind_simple rest → length behind_it ≡ 0 → all ≡ done ++ step_at joint simple ∷ [] → AreSteps Descendant text (Some all)
  step_ends simple all behind_it e b none is =
      subst (λ z. AreSteps Descendant text (Some z)) (sym is) (so_far (Some (step_at joint simple ∷ [])) (last_step joint rest simple e (subst (λ z. length z ≡ 0) b none)))

  pub next_step : (simple : Simple) (all : List Step) (behind_it : List ℕ) → simple_of joint rest ≡ Some simple → behind_it ≡ behind_simple rest → 0 < length behind_it → all ≡ done ++ step_at joint simple ∷ [] →
      StepsGoOn text all (joint_of behind_it) (behind_joint behind_it)
  next_step simple all behind_it e b some is found p =
      let q : AreSteps (joint_of (behind_simple rest)) (behind_joint (behind_simple rest)) found = subst (λ z. AreSteps (joint_of z) (behind_joint z) found) b p in
      let h : 0 < length (behind_simple rest) = subst (λ z. 0 < length z) b some in
      let w = so_far (preceded (step_at joint simple) found) (more_steps joint rest simple found e h q) in
      subst (λ z. AreSteps Descendant text z) (one_more done (step_at joint simple) found ∙ ap (λ z. continued z found) (sym is)) w

-- the selectors of a list continue those that are done
abbrev pub SelectorsGoOn : List ℕ → List (List Step) → List ℕ → Type 0
SelectorsGoOn text done rest = (found : Option (List (List Step))) → AreSelectors rest found → AreSelectors text (continued done found)

module _ (text : List ℕ) (done : List (List Step)) (rest : List ℕ) (so_far : SelectorsGoOn text done rest) where
  pub no_selectors : (part : List ℕ) → part ≡ leading (is_other 44) rest → IsSelectorText part None → AreSelectors text None
  no_selectors part is e = so_far None (no_selector rest (subst (λ z. IsSelectorText z None) is e))

  pub selector_ends : (part behind_it : List ℕ) (selector : List Step) (all : List (List Step)) → part ≡ leading (is_other 44) rest → behind_it ≡ behind (is_other 44) rest → IsSelectorText part (Some selector) → length behind_it ≡ 0 → all ≡ done ++ selector ∷ [] → AreSelectors text (Some all)
  selector_ends part behind_it selector all a c e none is =
      let q : IsSelectorText (leading (is_other 44) rest) (Some selector) = subst (λ z. IsSelectorText z (Some selector)) a e in
      let n : length (behind (is_other 44) rest) ≡ 0 = subst (λ z. length z ≡ 0) c none in
      subst (λ z. AreSelectors text (Some z)) (sym is) (so_far (Some (selector ∷ [])) (last_selector rest selector q n))

  pub next_selector : (part behind_it : List ℕ) (selector : List Step) (all : List (List Step)) → part ≡ leading (is_other 44) rest → behind_it ≡ behind (is_other 44) rest → IsSelectorText part (Some selector) → 0 < length behind_it → all ≡ done ++ selector ∷ [] → SelectorsGoOn text all (drop 1 behind_it)
  next_selector part behind_it selector all a c e some is found p =
      let q : IsSelectorText (leading (is_other 44) rest) (Some selector) = subst (λ z. IsSelectorText z (Some selector)) a e in
      let h : 0 < length (behind (is_other 44) rest) = subst (λ z. 0 < length z) c some in
      let r : AreSelectors (drop 1 (behind (is_other 44) rest)) found = subst (λ z. AreSelectors (drop 1 z) found) c p in
      let w = so_far (preceded selector found) (more_selectors rest selector found q h r) in
      subst (λ z. AreSelectors text z) (one_more done selector found ∙ ap (λ z. continued z found) (sym is)) w

part_of : (text : List ℕ) (decls : List SheetDecl) → 0 < length text → AreDeclarations (behind_part 0 text) decls → AreDeclarations text (with_found (declaration_of_part (part_to 0 text)) decls)
part_of [] decls some p = absurd (omega (arith, some))
part_of (b ∷ bs) decls some p = one_part b bs decls p

-- the declarations of a block continue those that are done
pub next_part : (block : List ℕ) (done : List SheetDecl) (rest : List ℕ) → ((decls : List SheetDecl) → AreDeclarations rest decls → AreDeclarations block (done ++ decls)) → 0 < length rest →
    (part behind_it : List ℕ) (found : Option SheetDecl) (all : List SheetDecl) → part ≡ part_to 0 rest → behind_it ≡ behind_part 0 rest → found ≡ declaration_of_part part → all ≡ done ++ with_found found [] → (decls : List SheetDecl) → AreDeclarations behind_it decls → AreDeclarations block (all ++ decls)
next_part block done rest so_far some part behind_it found all part_is behind_is e is decls p =
    let w = so_far (with_found (declaration_of_part (part_to 0 rest)) decls) (part_of rest decls some (subst (λ z. AreDeclarations z decls) behind_is p)) in
    let d : declaration_of_part (part_to 0 rest) ≡ found = ap declaration_of_part (sym part_is) ∙ sym e in
    let q = found_more done (declaration_of_part (part_to 0 rest)) decls ∙ ap (λ z. (done ++ with_found z []) ++ decls) d ∙ ap (λ z. z ++ decls) (sym is) in
    subst (λ z. AreDeclarations block z) q w

-- the last part of a block is all of it that is left
pub last_part : (block part : List ℕ) → part ≡ part_to 0 block → behind_part 0 block ≡ [] → AreDeclarations block (with_found (declaration_of_part part) [])
last_part [] part is ends = subst (λ z. AreDeclarations [] (with_found (declaration_of_part z) [])) (sym is) no_part
last_part (b ∷ bs) part is ends =
    subst (λ z. AreDeclarations (b ∷ bs) (with_found (declaration_of_part z) [])) (sym is) (one_part b bs [] (subst (λ z. AreDeclarations z []) (sym ends) no_part))

pub block_ends : (block : List ℕ) (done : List SheetDecl) (rest : List ℕ) → ((decls : List SheetDecl) → AreDeclarations rest decls → AreDeclarations block (done ++ decls)) →
    (part : List ℕ) (all : List SheetDecl) → part ≡ part_to 0 rest → behind_part 0 rest ≡ [] → all ≡ done ++ with_found (declaration_of_part part) [] → AreDeclarations block all
block_ends block done rest so_far part all part_is ends is = subst (λ z. AreDeclarations block z) (sym is) (so_far (with_found (declaration_of_part part) []) (last_part rest part part_is ends))

-- the rule sets of a text continue those that are done
pub next_statement : (text : List ℕ) (done : List RuleValue) (rest behind_it : List ℕ) → ((rules : List RuleValue) → AreStatements rest rules → AreStatements text (done ++ rules)) →
    (found : Option RuleValue) (all : List RuleValue) → ((rules : List RuleValue) → AreStatements behind_it rules → AreStatements rest (with_found found rules)) → all ≡ done ++ with_found found [] → (rules : List RuleValue) → AreStatements behind_it rules → AreStatements text (all ++ rules)
next_statement text done rest behind_it so_far found all one is rules p =
    let w = so_far (with_found found rules) (one rules p) in
    subst (λ z. AreStatements text z) (found_more done found rules ∙ ap (λ z. z ++ rules) (sym is)) w

pub text_ends : (text : List ℕ) (done : List RuleValue) (rest : List ℕ) → ((rules : List RuleValue) → AreStatements rest rules → AreStatements text (done ++ rules)) → length rest ≡ 0 → AreStatements text done
text_ends text done [] so_far e = subst (λ z. AreStatements text z) (append-nil done) (so_far [] end)
text_ends text done (b ∷ bs) so_far e = absurd (omega (arith, e))

-- the rule set that a text begins with
pub one_rule_set : (text : List ℕ) → 0 < length text → is_ascii_whitespace (slice_index text 0) ≡ false → (slice_index text 0 == 64) ≡ false →
    (prelude rest block behind_it : List ℕ) → prelude ≡ leading (is_other 123) text → rest ≡ behind (is_other 123) text → 0 < length rest → block ≡ block_to 0 (drop 1 rest) → behind_it ≡ behind_block 0 (drop 1 rest) →
    (found : Option RuleValue) → IsRuleSet prelude block found → (rules : List RuleValue) → AreStatements behind_it rules → AreStatements text (with_found found rules)
one_rule_set [] some w i prelude rest block behind_it a c begun d e found r rules p = absurd (omega (arith, some))
one_rule_set (b ∷ bs) some w i prelude rest block behind_it a c begun d e found r rules p =
    let text = b ∷ bs in
    let h : 0 < length (behind (is_other 123) text) = subst (λ z. 0 < length z) c begun in
    let block_is : block ≡ block_to 0 (drop 1 (behind (is_other 123) text)) = d ∙ ap (λ z. block_to 0 (drop 1 z)) c in
    let behind_is : behind_it ≡ behind_block 0 (drop 1 (behind (is_other 123) text)) = e ∙ ap (λ z. behind_block 0 (drop 1 z)) c in
    let q = subst (λ z. IsRuleSet z (block_to 0 (drop 1 (behind (is_other 123) text))) found) a (subst (λ z. IsRuleSet prelude z found) block_is r) in
    rule_set b bs found rules w i h q (subst (λ z. AreStatements z rules) behind_is p)

pub no_rule_set : (text : List ℕ) → 0 < length text → is_ascii_whitespace (slice_index text 0) ≡ false → (slice_index text 0 == 64) ≡ false → (rest : List ℕ) → rest ≡ behind (is_other 123) text → length rest ≡ 0 →
    (rules : List RuleValue) → AreStatements rest rules → AreStatements text rules
no_rule_set [] some w i rest is none rules p = absurd (omega (arith, some))
no_rule_set (b ∷ bs) some w i [] is none rules end = unopened b bs w i (ap length (sym is))
no_rule_set (b ∷ bs) some w i (c ∷ cs) is none rules p = absurd (omega (arith, none))

pub one_space : (text : List ℕ) → 0 < length text → is_ascii_whitespace (slice_index text 0) ≡ true → (rest : List ℕ) → rest ≡ drop 1 text → (rules : List RuleValue) → AreStatements rest rules → AreStatements text rules
one_space [] some w rest is rules p = absurd (omega (arith, some))
one_space (b ∷ bs) some w rest is rules p = space b bs rules w (subst (λ z. AreStatements z rules) is p)

pub one_at_rule : (text : List ℕ) → 0 < length text → is_ascii_whitespace (slice_index text 0) ≡ false → (slice_index text 0 == 64) ≡ true → (rest : List ℕ) → rest ≡ behind_at_rule (drop 1 text) → (rules : List RuleValue) → AreStatements rest rules → AreStatements text rules
one_at_rule [] some w i rest is rules p = absurd (omega (arith, some))
one_at_rule (b ∷ bs) some w i rest is rules p = at_rule b bs rules w i (subst (λ z. AreStatements z rules) is p)

-- a declaration's value begins behind its colon
pub declared_is : (name rest value : List ℕ) → 0 < length rest → value ≡ trimmed (drop 1 rest) → weighed name value (before_important value) ≡ declared name rest
declared_is name rest value some is =
    let e : (length rest == 0) ≡ false = grind (arith, common_steps) in
    rw e (ap (λ z. weighed name z (before_important z)) is)
