-- The statements of a sheet (CSS 2.2, 4.1.1, 4.1.5 to 4.1.7 and 4.2).
-- A statement that begins with `@` is ignored. Any other is a rule set: a prelude up to `{`, and a block up to the
-- `}` that matches, or to the end. One without `{` is ignored, and so is one whose prelude isn't a list of selectors.
use Rattle.std.specs.Prelude.{ℕ, ◌≡◌, ◌<◌, ◌==◌, List, [], ◌∷◌, length, drop, true, false, Option, Some, None, sum_by}
use Rattle.std.specs.Char.{is_ascii_whitespace}
use Rattle.lay_values.specs.Numbers.{leading, behind}
use Rattle.lay_sheet.specs.declared.selector.Step.{Step}
use Rattle.lay_sheet.specs.declared.declaration.SheetDecl.{SheetDecl}
use Rattle.lay_sheet.specs.Lists.{with_found}
use Rattle.lay_sheet.specs.PlainText.{plain_text}
use Rattle.lay_sheet.specs.Pieces.{is_other, block_to, behind_block, behind_at_rule}
use Rattle.lay_sheet.specs.SelectorTexts.{AreSelectors}
use Rattle.lay_sheet.specs.Declarations.{AreDeclarations}

-- a rule set, as contracts see it
pub record RuleValue : Type 0 where
  pub selectors : List (List Step)
  pub decls : List SheetDecl

-- the rule set that a prelude and a block are, or None
pub data IsRuleSet : List ℕ → List ℕ → Option RuleValue → Type 0 where
  kept : (prelude block : List ℕ) (selectors : List (List Step)) (decls : List SheetDecl) → AreSelectors prelude (Some selectors) →
      AreDeclarations block decls → IsRuleSet prelude block (Some (record { selectors = selectors; decls = decls }))
  ignored : (prelude block : List ℕ) → AreSelectors prelude None → IsRuleSet prelude block None

-- the rule sets of the statements that a text is
pub data AreStatements : List ℕ → List RuleValue → Type 0 where
  end : AreStatements [] []
  space : (b : ℕ) (bs : List ℕ) (rules : List RuleValue) → is_ascii_whitespace b ≡ true → AreStatements bs rules →
      AreStatements (b ∷ bs) rules
  at_rule : (b : ℕ) (bs : List ℕ) (rules : List RuleValue) → is_ascii_whitespace b ≡ false → (b == 64) ≡ true →
      AreStatements (behind_at_rule bs) rules → AreStatements (b ∷ bs) rules
  unopened : (b : ℕ) (bs : List ℕ) → is_ascii_whitespace b ≡ false → (b == 64) ≡ false → length (behind (is_other 123) (b ∷ bs)) ≡ 0 →
      AreStatements (b ∷ bs) []
  rule_set : (b : ℕ) (bs : List ℕ) (rule : Option RuleValue) (rules : List RuleValue) → is_ascii_whitespace b ≡ false →
      (b == 64) ≡ false → 0 < length (behind (is_other 123) (b ∷ bs)) →
      IsRuleSet (leading (is_other 123) (b ∷ bs)) (block_to 0 (drop 1 (behind (is_other 123) (b ∷ bs)))) rule →
      AreStatements (behind_block 0 (drop 1 (behind (is_other 123) (b ∷ bs)))) rules → AreStatements (b ∷ bs) (with_found rule rules)

-- the rule sets of a sheet's text, in its order
abbrev pub IsSheet : List ℕ → List RuleValue → Type 0
IsSheet text rules = AreStatements (plain_text text) rules

-- how many selectors the rule sets have
abbrev pub selector_count : List RuleValue → ℕ
selector_count rules = sum_by (λ r. length r.selectors) rules
