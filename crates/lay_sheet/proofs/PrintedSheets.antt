-- A printed sheet reads as itself.
use Rattle.std.proofs.Common.{◌≡◌, ◌∙◌, ℕ, ◌<◌, List, [], ◌∷◌, ◌++◌, Bool, true, false, Some, not, codes, map, length, drop, refl, sym, ap, subst, append_assoc, arith}
use Rattle.std.specs.Prelude.{◌==◌, ◌&&◌, ◌||◌}
use Rattle.std.specs.Char.{is_ascii_whitespace}
use Rattle.std.specs.List.{list_all, AllByRecursion, AllZip}
use Rattle.std.proofs.lemmas.Bool.{and_parts}
use Rattle.lay_values.specs.Numbers.{leading, behind}
use Rattle.lay_sheet.specs.declared.selector.Step.{Step}
use Rattle.lay_sheet.specs.Pieces.{is_other, block_to, behind_block}
use Rattle.lay_sheet.specs.Sheets.{RuleValue, IsRuleSet, AreStatements, kept, end, space, rule_set}
use Rattle.lay_sheet.specs.Printing.{PrintedRule, selector_text, declaration_text, parted_text, rule_text, sheet_text, IsSelector, SpellsDecl, SpellsRule}
use Rattle.lay_sheet.specs.Laws.{PrintedSheetReads}
use Rattle.lay_sheet.proofs.Trimming.{all_on, all_such}
use Rattle.lay_sheet.proofs.PrintedBytes.{avoids, is_clean, is_quiet, space_clean, plain_same}
use Rattle.lay_sheet.proofs.PrintedSelectors.{cut, selector_clean, BeginsRule, begins_selector, selectors_are}
use Rattle.lay_sheet.proofs.PrintedBlocks.{declarations_are, all_declarations_clean}

-- a byte that is no brace and begins nothing
abbrev is_braceless : ℕ → Bool
is_braceless b = not ((b == 123) || (b == 125)) && is_quiet b

-- a text of parts and signs without braces
parted_all : (p : ℕ → Bool) (gap sign : List ℕ) (texts : List (List ℕ)) → list_all p gap ≡ true → list_all p sign ≡ true →
    AllByRecursion (λ t. list_all p t ≡ true) texts → list_all p (parted_text gap sign texts) ≡ true
parted_all p gap sign [] g s all = refl
parted_all p gap sign (x ∷ []) g s all = all.0
parted_all p gap sign (x ∷ y ∷ more) g s all =
    let later = parted_text gap sign (y ∷ more) in
    all_on p x ((gap ++ (sign ++ gap)) ++ later) all.0
    (all_on p (gap ++ (sign ++ gap)) later (all_on p gap (sign ++ gap) g (all_on p sign gap s g)) (parted_all p gap sign (y ∷ more) g s all.1))

each_such : (p q : ℕ → Bool) → ((b : ℕ) → p b ≡ true → q b ≡ true) → (texts : List (List ℕ)) →
    AllByRecursion (λ t. list_all p t ≡ true) texts → AllByRecursion (λ t. list_all q t ≡ true) texts
each_such p q each [] all = tt
each_such p q each (x ∷ xs) all = (all_such p q each x all.0, each_such p q each xs all.1)

braceless_is : (b : ℕ) → is_clean b ≡ true → is_braceless b ≡ true
braceless_is b h =
    let quote = avoids is_clean 34 refl b h in
    let apostrophe = avoids is_clean 39 refl b h in
    let backslash = avoids is_clean 92 refl b h in
    let slash = avoids is_clean 47 refl b h in
    let opening = avoids is_clean 123 refl b h in
    let closing = avoids is_clean 125 refl b h in
    rw (quote, apostrophe, backslash, slash, opening, closing) refl

quiet_of : (b : ℕ) → is_braceless b ≡ true → is_quiet b ≡ true
quiet_of b h = (and_parts (not ((b == 123) || (b == 125))) (is_quiet b) h).1

-- a block without braces in it
block_is : (block rest : List ℕ) → list_all is_braceless block ≡ true → (block_to 0 (block ++ 125 ∷ rest) ≡ block) × (behind_block 0 (block ++ 125 ∷ rest) ≡ rest)
block_is [] rest h = (refl, refl)
block_is (b ∷ bs) rest h =
    let parts = and_parts (is_braceless b) (list_all is_braceless bs) h in
    let opening = avoids is_braceless 123 refl b parts.0 in
    let closing = avoids is_braceless 125 refl b parts.0 in
    let was = block_is bs rest parts.1 in
    rw (opening, closing) (ap (λ z. b ∷ z) was.0, was.1)

spaces_first : (gap text : List ℕ) (rules : List RuleValue) → list_all is_ascii_whitespace gap ≡ true → AreStatements text rules → AreStatements (gap ++ text) rules
spaces_first [] text rules h p = p
spaces_first (b ∷ bs) text rules h p =
    let parts = and_parts (is_ascii_whitespace b) (list_all is_ascii_whitespace bs) h in
    space b (bs ++ text) rules parts.0 (spaces_first bs text rules parts.1 p)

-- a rule set with what stands behind it
whole_rule : (b : ℕ) (bs prelude block rest : List ℕ) (rule : RuleValue) (rules : List RuleValue) → b ∷ bs ≡ prelude ++ 123 ∷ (block ++ 125 ∷ rest) →
    is_ascii_whitespace b ≡ false → (b == 64) ≡ false → list_all (is_other 123) prelude ≡ true → list_all is_braceless block ≡ true →
    IsRuleSet prelude block (Some rule) → AreStatements rest rules → AreStatements (b ∷ bs) (rule ∷ rules)
whole_rule b bs prelude block rest rule rules is solid no_at plain inner set later =
    let parts = cut 123 prelude (block ++ 125 ∷ rest) plain in
    let front : leading (is_other 123) (b ∷ bs) ≡ prelude = ap (leading (is_other 123)) is ∙ parts.0 in
    let opened : behind (is_other 123) (b ∷ bs) ≡ 123 ∷ (block ++ 125 ∷ rest) = ap (behind (is_other 123)) is ∙ parts.1 in
    let closed = block_is block rest inner in
    let some : 0 < length (behind (is_other 123) (b ∷ bs)) = subst (λ z. 0 < length z) (sym opened) (omega arith) in
    let inside : block_to 0 (drop 1 (behind (is_other 123) (b ∷ bs))) ≡ block = ap (λ z. block_to 0 (drop 1 z)) opened ∙ closed.0 in
    let left : behind_block 0 (drop 1 (behind (is_other 123) (b ∷ bs))) ≡ rest = ap (λ z. behind_block 0 (drop 1 z)) opened ∙ closed.1 in
    let here : IsRuleSet (leading (is_other 123) (b ∷ bs)) (block_to 0 (drop 1 (behind (is_other 123) (b ∷ bs)))) (Some rule) =
    subst (λ z. IsRuleSet z (block_to 0 (drop 1 (behind (is_other 123) (b ∷ bs)))) (Some rule)) (sym front)
    (subst (λ z. IsRuleSet prelude z (Some rule)) (sym inside) set) in
    rule_set b bs (Some rule) rules solid no_at some here (subst (λ z. AreStatements z rules) (sym left) later)

module _ (gap : List ℕ) (white : list_all is_ascii_whitespace gap ≡ true) where
  gap_all : (p : ℕ → Bool) → ((b : ℕ) → is_clean b ≡ true → p b ≡ true) → list_all p gap ≡ true
  gap_all p each = all_such is_clean p each gap (space_clean gap white)

  selectors_clean : (found : List (List Step)) → AllByRecursion IsSelector found → AllByRecursion (λ t. list_all is_clean t ≡ true) (map (selector_text gap) found)
  selectors_clean [] all = tt
  selectors_clean (x ∷ xs) all = (selector_clean gap white x all.0, selectors_clean xs all.1)

  abbrev prelude_of : PrintedRule → List ℕ
  prelude_of r = parted_text gap (codes ",") (map (selector_text gap) r.selectors) ++ gap

  abbrev block_of : PrintedRule → List ℕ
  block_of r = gap ++ (parted_text gap (codes ";") (map (declaration_text gap) r.decls) ++ gap)

  prelude_all : (p : ℕ → Bool) → ((b : ℕ) → is_clean b ≡ true → p b ≡ true) → p 44 ≡ true → (r : PrintedRule) → AllByRecursion IsSelector r.selectors →
      list_all p (prelude_of r) ≡ true
  prelude_all p each comma r all =
      let texts = map (selector_text gap) r.selectors in
      let sign : list_all p (codes ",") ≡ true = rw comma refl in
      all_on p (parted_text gap (codes ",") texts) gap
      (parted_all p gap (codes ",") texts (gap_all p each) sign (each_such is_clean p each texts (selectors_clean r.selectors all))) (gap_all p each)

  block_all : (p : ℕ → Bool) → ((b : ℕ) → is_clean b ≡ true → p b ≡ true) → p 59 ≡ true → (r : PrintedRule) (v : RuleValue) → AllZip SpellsDecl r.decls v.decls →
      list_all p (block_of r) ≡ true
  block_all p each semicolon r v all =
      let texts = map (declaration_text gap) r.decls in
      let sign : list_all p (codes ";") ≡ true = rw semicolon refl in
      let g = gap_all p each in
      all_on p gap (parted_text gap (codes ";") texts ++ gap) g
      (all_on p (parted_text gap (codes ";") texts) gap
      (parted_all p gap (codes ";") texts g sign (each_such is_clean p each texts (all_declarations_clean gap white r.decls v.decls all))) g)

  rule_is : (r : PrintedRule) (rest : List ℕ) → rule_text gap r ++ rest ≡ prelude_of r ++ 123 ∷ (block_of r ++ 125 ∷ (gap ++ rest))
  rule_is r rest = simp append_assoc refl

  -- the first byte of a rule set
  begins_rule : (found : List (List Step)) (rest : List ℕ) → 0 < length found → AllByRecursion IsSelector found →
      BeginsRule gap white (parted_text gap (codes ",") (map (selector_text gap) found) ++ rest)
  begins_rule [] rest some all = absurd (omega (arith, some))
  begins_rule (x ∷ []) rest some all = begins_selector gap white x rest all.0
  begins_rule (x ∷ y ∷ more) rest some all =
      let later = (gap ++ 44 ∷ gap) ++ parted_text gap (codes ",") (map (selector_text gap) (y ∷ more)) in
      subst (BeginsRule gap white) (sym (append_assoc (selector_text gap x) later rest)) (begins_selector gap white x (later ++ rest) all.0)

  rule_reads : (r : PrintedRule) (v : RuleValue) → SpellsRule r v → IsRuleSet (prelude_of r) (block_of r) (Some v)
  rule_reads r v s =
      subst (λ z. IsRuleSet (prelude_of r) (block_of r) (Some (record { selectors = z; decls = v.decls }))) s.selectors
      (kept (prelude_of r) (block_of r) r.selectors v.decls (selectors_are gap white [] r.selectors refl s.some s.each) (declarations_are gap white gap r.decls v.decls white s.decls))

  rule_first : (r : PrintedRule) (v : RuleValue) (rest : List ℕ) (rules : List RuleValue) → SpellsRule r v → AreStatements rest rules →
      AreStatements (rule_text gap r ++ rest) (v ∷ rules)
  rule_first r v rest rules s later =
      let all = rule_is r rest in
      let tail = 123 ∷ (block_of r ++ 125 ∷ (gap ++ rest)) in
      let first = begins_rule r.selectors (gap ++ tail) s.some s.each in
      let text : rule_text gap r ++ rest ≡ first.byte ∷ first.bytes =
      all ∙ append_assoc (parted_text gap (codes ",") (map (selector_text gap) r.selectors)) gap tail ∙ first.is in
      subst (λ z. AreStatements z (v ∷ rules)) (sym text)
      (whole_rule first.byte first.bytes (prelude_of r) (block_of r) (gap ++ rest) v rules (sym text ∙ all) first.solid first.no_at
      (prelude_all (is_other 123) open_other refl r s.each) (block_all is_braceless braceless_is refl r v s.decls) (rule_reads r v s)
      (spaces_first gap rest rules white later))
    where
      open_other : (b : ℕ) → is_clean b ≡ true → is_other 123 b ≡ true
      open_other b h = let e = avoids is_clean 123 refl b h in rw e refl

  sheet_statements : (rs : List PrintedRule) (rules : List RuleValue) → AllZip SpellsRule rs rules → AreStatements (sheet_text gap rs) rules
  sheet_statements [] [] all = end
  sheet_statements [] (v ∷ rules) all = absurd all
  sheet_statements (r ∷ rs) [] all = absurd all
  sheet_statements (r ∷ rs) (v ∷ rules) all = rule_first r v (sheet_text gap rs) rules all.0 (sheet_statements rs rules all.1)

  quiet_is : (b : ℕ) → is_clean b ≡ true → is_quiet b ≡ true
  quiet_is b h = quiet_of b (braceless_is b h)

  rule_quiet : (r : PrintedRule) (v : RuleValue) → SpellsRule r v → list_all is_quiet (rule_text gap r) ≡ true
  rule_quiet r v s =
      let g = gap_all is_quiet quiet_is in
      let block : list_all is_quiet (block_of r ++ 125 ∷ gap) ≡ true = all_on is_quiet (block_of r) (125 ∷ gap) (block_all is_quiet quiet_is refl r v s.decls) g in
      let all : list_all is_quiet (prelude_of r ++ 123 ∷ (block_of r ++ 125 ∷ gap)) ≡ true =
      all_on is_quiet (prelude_of r) (123 ∷ (block_of r ++ 125 ∷ gap)) (prelude_all is_quiet quiet_is refl r s.each) block in
      let text : rule_text gap r ≡ prelude_of r ++ 123 ∷ (block_of r ++ 125 ∷ gap) = simp append_assoc refl in
      subst (λ z. list_all is_quiet z ≡ true) (sym text) all

  sheet_quiet : (rs : List PrintedRule) (rules : List RuleValue) → AllZip SpellsRule rs rules → list_all is_quiet (sheet_text gap rs) ≡ true
  sheet_quiet [] [] all = refl
  sheet_quiet [] (v ∷ rules) all = absurd all
  sheet_quiet (r ∷ rs) [] all = absurd all
  sheet_quiet (r ∷ rs) (v ∷ rules) all = all_on is_quiet (rule_text gap r) (sheet_text gap rs) (rule_quiet r v all.0) (sheet_quiet rs rules all.1)

pub printed_sheet_reads_lem : PrintedSheetReads
printed_sheet_reads_lem gap rs rules white all =
    subst (λ z. AreStatements z rules) (sym (plain_same (sheet_text gap rs) (sheet_quiet gap white rs rules all))) (sheet_statements gap white rs rules all)
