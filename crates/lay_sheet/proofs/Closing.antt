-- Open strings, comments and blocks end with the text, and whole statements stand by themselves.
use Rattle.std.proofs.Common.{◌≡◌, ◌∙◌, ℕ, zero, suc, ◌+◌, ◌-◌, ◌<◌, ◌≤◌, ◌⊎◌, inl, inr, List, [], ◌∷◌, ◌++◌, Bool, true, false, Option, Some, None, length, drop, refl, sym, ap, subst, arith}
use Rattle.std.specs.Prelude.{◌==◌, ◌&&◌, ◌||◌, if◌then◌else◌}
use Rattle.std.specs.Char.{is_ascii_whitespace}
use Rattle.std.specs.List.{list_any}
use Rattle.std.proofs.lemmas.Bool.{cases_Bool, false≢true, eqb-true, ne_eqb, or_parts}
use Rattle.std.proofs.lemmas.Grind.{common_steps}
use Rattle.std.proofs.lemmas.List.{append-nil, append_assoc}
use Rattle.lay_values.specs.Numbers.{leading, behind}
use Rattle.lay_sheet.specs.declared.plain.Place.{Place}
use Rattle.lay_sheet.specs.declared.plain.Place.TheVariants.{Outside, Escape, InString, StringEscape, CommentOpen, InComment, CommentEnd}
use Rattle.lay_sheet.specs.Lists.{with_found}
use Rattle.lay_sheet.specs.Pieces.{is_other, block_to, behind_block, behind_at_rule}
use Rattle.lay_sheet.specs.PlainText.{is_mark, begins_with, ends_comment, place_behind, seen_of, plain_from, plain_text}
use Rattle.lay_sheet.specs.Sheets.{RuleValue, IsRuleSet, AreStatements, IsSheet, end, space, at_rule, unopened, rule_set}
use Rattle.lay_sheet.specs.Laws.{parts_string, has_comment_end, place_after_text, depth_after, LacksBrace, ends_at_rule, OpenStringEnds, OpenCommentEnds, OpenBlockEnds, SheetsFollow, AtRuleSaysNothing}
use Rattle.lay_sheet.proofs.OneSheet.{one_text, one_sheet_lem}
use Rattle.lay_sheet.proofs.SomeSheet.{some_sheet_lem}
use Rattle.lay_sheet.proofs.Texts.{string_hides_lem, comment_is_space_lem}

-- an open string and an open comment
string_open : (mark : ℕ) (inner : List ℕ) → list_any (parts_string mark) inner ≡ false → plain_from (InString mark) inner ≡ []
string_open mark [] h = refl
string_open mark (b ∷ bs) h = grind (arith, common_steps, string_open mark bs)

pub open_string_ends_lem : OpenStringEnds
open_string_ends_lem mark inner is h =
    let seen : plain_text (mark ∷ inner) ≡ mark ∷ [] = grind (arith, common_steps, string_open mark inner h, is) in
    seen ∙ sym (string_hides_lem mark inner [] is h)

comment_open : (inner : List ℕ) → has_comment_end inner ≡ false → plain_from InComment inner ≡ []
comment_open [] h = refl
comment_open (b ∷ bs) h =
    let first : ends_comment b bs ≡ false = (or_parts (ends_comment b bs) (has_comment_end bs) h).0 in
    let rest = comment_open bs ((or_parts (ends_comment b bs) (has_comment_end bs) h).1) in
    rw first rest

pub open_comment_ends_lem : OpenCommentEnds
open_comment_ends_lem inner h =
    let seen : plain_text (47 ∷ 42 ∷ inner) ≡ 32 ∷ [] = ap (λ z. 32 ∷ z) (comment_open inner h) in
    seen ∙ sym (comment_is_space_lem inner [] h)

-- what was found stands in front of both parts
found_front : {A : Type 0} (found : Option A) (xs ys : List A) → with_found found xs ++ ys ≡ with_found found (xs ++ ys)
found_front None xs ys = refl
found_front (Some x) xs ys = refl

-- what is seen of a text that ends outside is seen whatever stands behind it, unless that goes on with a comment's mark
module _ (c : ℕ) (rest : List ℕ) (no_star : (c == 42) ≡ false) (no_slash : (c == 47) ≡ false) where
  begins_same : (d : ℕ) → (c == d) ≡ false → (bs : List ℕ) → begins_with d (bs ++ c ∷ rest) ≡ begins_with d bs
  begins_same d e [] = e
  begins_same d e (b ∷ bs) = refl

  place_same : (place : Place) (b : ℕ) (bs : List ℕ) → place_behind place b (bs ++ c ∷ rest) ≡ place_behind place b bs
  place_same Outside b bs = rw (begins_same 42 no_star bs) refl
  place_same Escape b bs = refl
  place_same (InString mark) b bs = refl
  place_same (StringEscape mark) b bs = refl
  place_same CommentOpen b bs = refl
  place_same InComment b bs = rw (begins_same 47 no_slash bs) refl
  place_same CommentEnd b bs = refl

  seen_same : (place : Place) (b : ℕ) (bs : List ℕ) → seen_of place b (bs ++ c ∷ rest) ≡ seen_of place b bs
  seen_same Outside b bs = rw (begins_same 42 no_star bs) refl
  seen_same Escape b bs = refl
  seen_same (InString mark) b bs = refl
  seen_same (StringEscape mark) b bs = refl
  seen_same CommentOpen b bs = refl
  seen_same InComment b bs = refl
  seen_same CommentEnd b bs = refl

  seen_on : (place : Place) (text : List ℕ) → place_after_text place text ≡ Outside → plain_from place (text ++ c ∷ rest) ≡ plain_from place text ++ plain_text (c ∷ rest)
  seen_on place [] e = ap (λ z. plain_from z (c ∷ rest)) e
  seen_on place (b ∷ bs) e =
      let on = seen_on (place_behind place b bs) bs e in
      ap (λ z. with_found z (plain_from (place_behind place b (bs ++ c ∷ rest)) (bs ++ c ∷ rest))) (seen_same place b bs)
      ∙ ap (λ z. with_found (seen_of place b bs) (plain_from z (bs ++ c ∷ rest))) (place_same place b bs)
      ∙ ap (with_found (seen_of place b bs)) on
      ∙ sym (found_front (seen_of place b bs) (plain_from (place_behind place b bs) bs) (plain_text (c ∷ rest)))

-- a byte opens a block, closes one, or does neither
abbrev Braces : ℕ → Type 0
Braces b = ((b == 123) ≡ true) ⊎ (((b == 123) ≡ false) × ((b == 125) ≡ true)) ⊎ (((b == 123) ≡ false) × ((b == 125) ≡ false))

braces : (b : ℕ) → Braces b
braces b = of_cases (cases_Bool (b == 123)) (cases_Bool (b == 125))
  where
    of_cases : ((b == 123) ≡ true) ⊎ ((b == 123) ≡ false) → ((b == 125) ≡ true) ⊎ ((b == 125) ≡ false) → Braces b
    of_cases (inl o) c = inl o
    of_cases (inr o) (inl c) = inr (inl (o, c))
    of_cases (inr o) (inr c) = inr (inr (o, c))

after_open : (d b : ℕ) (bs : List ℕ) → (b == 123) ≡ true → depth_after d (b ∷ bs) ≡ depth_after (d + 1) bs
after_open d b bs o = rw o refl

after_close : (d b : ℕ) (bs : List ℕ) → (b == 123) ≡ false → (b == 125) ≡ true → depth_after d (b ∷ bs) ≡ depth_after (d - 1) bs
after_close d b bs o c = rw (o, c) refl

after_other : (d b : ℕ) (bs : List ℕ) → (b == 123) ≡ false → (b == 125) ≡ false → depth_after d (b ∷ bs) ≡ depth_after d bs
after_other d b bs o c = rw (o, c) refl

-- what stands behind a piece with the missing brace and without it: nothing and the rest, or a text that lacks that brace still
abbrev Ends : List ℕ → List ℕ → List ℕ → Type 0
Ends rest lacking closed = ((lacking ≡ []) × (closed ≡ rest)) ⊎ ((depth_after 0 lacking ≡ 1) × (closed ≡ lacking ++ 125 ∷ rest))

record BlockEnds (rest : List ℕ) (d : ℕ) (text : List ℕ) : Type 0 where
  block : block_to d (text ++ 125 ∷ rest) ≡ block_to d text
  ends : Ends rest (behind_block d text) (behind_block d (text ++ 125 ∷ rest))

module _ (rest : List ℕ) where
  opens_in : (d b : ℕ) (bs : List ℕ) → (b == 123) ≡ true → BlockEnds rest (d + 1) bs → BlockEnds rest d (b ∷ bs)
  opens_in d b bs o was = record { block = rw o (ap (λ z. b ∷ z) was.block); ends = rw o was.ends }

  closes_all : (b : ℕ) (bs : List ℕ) → (b == 123) ≡ false → (b == 125) ≡ true → depth_after 0 bs ≡ 1 → BlockEnds rest 0 (b ∷ bs)
  closes_all b bs o c e = record { block = rw (o, c) refl; ends = rw (o, c) (inr (e, refl)) }

  closes_one : (d b : ℕ) (bs : List ℕ) → (b == 123) ≡ false → (b == 125) ≡ true → (suc d == 0) ≡ false → BlockEnds rest (suc d - 1) bs → BlockEnds rest (suc d) (b ∷ bs)
  closes_one d b bs o c z was = record { block = rw (o, c, z) (ap (λ y. b ∷ y) was.block); ends = rw (o, c, z) was.ends }

  passes : (d b : ℕ) (bs : List ℕ) → (b == 123) ≡ false → (b == 125) ≡ false → BlockEnds rest d bs → BlockEnds rest d (b ∷ bs)
  passes d b bs o c was = record { block = rw (o, c) (ap (λ z. b ∷ z) was.block); ends = rw (o, c) was.ends }

  block_ends : (d : ℕ) (text : List ℕ) → depth_after (d + 1) text ≡ 1 → BlockEnds rest d text
  block_ends zero [] e = record { block = refl; ends = inl (refl, refl) }
  block_ends (suc d) [] e = absurd (omega (arith, e))
  block_ends zero (b ∷ bs) e = of_brace (λ d f. block_ends d bs f) (braces b)
    where
      of_brace : ((d : ℕ) → depth_after (d + 1) bs ≡ 1 → BlockEnds rest d bs) → Braces b → BlockEnds rest 0 (b ∷ bs)
      of_brace on (inl o) = opens_in 0 b bs o (on 1 (sym (after_open 1 b bs o) ∙ e))
      of_brace on (inr (inl (o, c))) = closes_all b bs o c (sym (after_close 1 b bs o c) ∙ e)
      of_brace on (inr (inr (o, c))) = passes 0 b bs o c (on 0 (sym (after_other 1 b bs o c) ∙ e))
  block_ends (suc d) (b ∷ bs) e = of_brace (λ d f. block_ends d bs f) (braces b)
    where
      less : suc d + 1 - 1 ≡ (suc d - 1) + 1
      less = omega arith

      of_brace : ((d : ℕ) → depth_after (d + 1) bs ≡ 1 → BlockEnds rest d bs) → Braces b → BlockEnds rest (suc d) (b ∷ bs)
      of_brace on (inl o) = opens_in (suc d) b bs o (on (suc d + 1) (sym (after_open (suc d + 1) b bs o) ∙ e))
      of_brace on (inr (inl (o, c))) =
          closes_one d b bs o c (ne_eqb (suc d) 0 (λ q. omega (arith, q))) (on (suc d - 1) (ap (λ z. depth_after z bs) (sym less) ∙ sym (after_close (suc d + 1) b bs o c) ∙ e))
      of_brace on (inr (inr (o, c))) = passes (suc d) b bs o c (on (suc d) (sym (after_other (suc d + 1) b bs o c) ∙ e))

  -- a statement that begins with `@`
  at_rule_ends : (text : List ℕ) → depth_after 0 text ≡ 1 → Ends rest (behind_at_rule text) (behind_at_rule (text ++ 125 ∷ rest))
  at_rule_ends [] e = absurd (omega (arith, e))
  at_rule_ends (b ∷ bs) e = of_byte (λ f. at_rule_ends bs f) (cases_Bool (b == 59)) (braces b)
    where
      semicolon : (b == 59) ≡ true → depth_after 0 bs ≡ 1
      semicolon s = let q : 59 ≡ b = sym (eqb-true b 59 s) in subst (λ z. depth_after 0 (z ∷ bs) ≡ 1) (sym q) e

      of_byte : (depth_after 0 bs ≡ 1 → Ends rest (behind_at_rule bs) (behind_at_rule (bs ++ 125 ∷ rest))) →
          ((b == 59) ≡ true) ⊎ ((b == 59) ≡ false) → Braces b → Ends rest (behind_at_rule (b ∷ bs)) (behind_at_rule (b ∷ bs ++ 125 ∷ rest))
      of_byte on (inl s) o = let f = semicolon s in rw s (inr (f, refl))
      of_byte on (inr s) (inl o) = let was = block_ends 0 bs (sym (after_open 0 b bs o) ∙ e) in rw (s, o) was.ends
      of_byte on (inr s) (inr (inl (o, c))) = let was = on (sym (after_close 0 b bs o c) ∙ e) in rw (s, o) was
      of_byte on (inr s) (inr (inr (o, c))) = let was = on (sym (after_other 0 b bs o c) ∙ e) in rw (s, o) was

-- a prelude ends with the first brace that opens a block
front_more : (text more : List ℕ) → 0 < length (behind (is_other 123) text) →
    (leading (is_other 123) (text ++ more) ≡ leading (is_other 123) text) × (behind (is_other 123) (text ++ more) ≡ behind (is_other 123) text ++ more)
front_more [] more some = absurd (omega (arith, some))
front_more (b ∷ bs) more some = of_byte (λ h. front_more bs more h) (cases_Bool (b == 123))
  where
    later : (b == 123) ≡ false → 0 < length (behind (is_other 123) bs)
    later o = rw o at some

    of_byte : (0 < length (behind (is_other 123) bs) →
        (leading (is_other 123) (bs ++ more) ≡ leading (is_other 123) bs) × (behind (is_other 123) (bs ++ more) ≡ behind (is_other 123) bs ++ more)) →
        ((b == 123) ≡ true) ⊎ ((b == 123) ≡ false) →
        (leading (is_other 123) (b ∷ bs ++ more) ≡ leading (is_other 123) (b ∷ bs)) × (behind (is_other 123) (b ∷ bs ++ more) ≡ behind (is_other 123) (b ∷ bs) ++ more)
    of_byte on (inl o) = rw o (refl, refl)
    of_byte on (inr o) = let was = on (later o) in rw o (ap (λ z. b ∷ z) was.0, was.1)

open_front : (text : List ℕ) → 0 < length (behind (is_other 123) text) → depth_after 0 text ≡ depth_after 1 (drop 1 (behind (is_other 123) text))
open_front [] some = absurd (omega (arith, some))
open_front (b ∷ bs) some = of_byte (λ h. open_front bs h) (braces b)
  where
    later : (b == 123) ≡ false → 0 < length (behind (is_other 123) bs)
    later o = rw o at some

    of_byte : (0 < length (behind (is_other 123) bs) → depth_after 0 bs ≡ depth_after 1 (drop 1 (behind (is_other 123) bs))) → Braces b →
        depth_after 0 (b ∷ bs) ≡ depth_after 1 (drop 1 (behind (is_other 123) (b ∷ bs)))
    of_byte on (inl o) = rw o refl
    of_byte on (inr (inl (o, c))) = let was = on (later o) in rw (o, c) was
    of_byte on (inr (inr (o, c))) = let was = on (later o) in rw (o, c) was

none_open : (text : List ℕ) → length (behind (is_other 123) text) ≡ 0 → depth_after 0 text ≡ 0
none_open [] none = refl
none_open (b ∷ bs) none = of_byte (λ h. none_open bs h) (braces b)
  where
    later : (b == 123) ≡ false → length (behind (is_other 123) bs) ≡ 0
    later o = rw o at none

    opened : (b == 123) ≡ true → length (b ∷ bs) ≡ 0
    opened o = rw o at none

    of_byte : (length (behind (is_other 123) bs) ≡ 0 → depth_after 0 bs ≡ 0) → Braces b → depth_after 0 (b ∷ bs) ≡ 0
    of_byte on (inl o) = let n = opened o in absurd (omega (arith, n))
    of_byte on (inr (inl (o, c))) = let was = on (later o) in rw (o, c) was
    of_byte on (inr (inr (o, c))) = let was = on (later o) in rw (o, c) was

drop_front : (text more : List ℕ) → 0 < length text → drop 1 (text ++ more) ≡ drop 1 text ++ more
drop_front [] more some = absurd (omega (arith, some))
drop_front (b ∷ bs) more some = refl

longer : (text more : List ℕ) → 0 < length text → 0 < length (text ++ more)
longer [] more some = absurd (omega (arith, some))
longer (b ∷ bs) more some = omega arith

space_opens_nothing : (b : ℕ) (bs : List ℕ) → is_ascii_whitespace b ≡ true → depth_after 0 (b ∷ bs) ≡ depth_after 0 bs
space_opens_nothing b bs w = of_byte (braces b)
  where
    at : (n : ℕ) → (b == n) ≡ true → is_ascii_whitespace n ≡ true
    at n e = subst (λ z. is_ascii_whitespace z ≡ true) (eqb-true b n e) w

    of_byte : Braces b → depth_after 0 (b ∷ bs) ≡ depth_after 0 bs
    of_byte (inl o) = absurd (false≢true (at 123 o))
    of_byte (inr (inl (o, c))) = absurd (false≢true (at 125 c))
    of_byte (inr (inr (o, c))) = after_other 0 b bs o c

at_opens_nothing : (b : ℕ) (bs : List ℕ) → (b == 64) ≡ true → depth_after 0 (b ∷ bs) ≡ depth_after 0 bs
at_opens_nothing b bs i = subst (λ z. depth_after 0 (z ∷ bs) ≡ depth_after 0 bs) (sym (eqb-true b 64 i)) refl

nothing_says : (text : List ℕ) (rules : List RuleValue) → text ≡ [] → AreStatements text rules → rules ≡ []
nothing_says text rules e p = one_text [] rules [] (subst (λ z. AreStatements z rules) e p) end

-- the statements of a text that lacks a brace are those of the same with its brace, and then come those of what stands behind that
module _ (rest : List ℕ) (others : List RuleValue) (behind_it : AreStatements rest others) where
  close_more : (text : List ℕ) (rules : List RuleValue) → depth_after 0 text ≡ 1 → AreStatements text rules → AreStatements (text ++ 125 ∷ rest) (rules ++ others)
  close_more text rules e end = absurd (omega (arith, e))
  close_more text rules e (space b bs rs w p) = space b (bs ++ 125 ∷ rest) (rs ++ others) w (close_more bs rs (sym (space_opens_nothing b bs w) ∙ e) p)
  close_more text rules e (at_rule b bs rs w i p) = of_ends (λ h. close_more (behind_at_rule bs) rs h p) (at_rule_ends rest bs (sym (at_opens_nothing b bs i) ∙ e))
    where
      of_ends : (depth_after 0 (behind_at_rule bs) ≡ 1 → AreStatements (behind_at_rule bs ++ 125 ∷ rest) (rs ++ others)) →
          Ends rest (behind_at_rule bs) (behind_at_rule (bs ++ 125 ∷ rest)) → AreStatements (b ∷ bs ++ 125 ∷ rest) (rs ++ others)
      of_ends on (inl (none, closed)) =
          subst (λ z. AreStatements (b ∷ bs ++ 125 ∷ rest) (z ++ others)) (sym (nothing_says (behind_at_rule bs) rs none p))
          (at_rule b (bs ++ 125 ∷ rest) others w i (subst (λ z. AreStatements z others) (sym closed) behind_it))
      of_ends on (inr (lacks, closed)) = at_rule b (bs ++ 125 ∷ rest) (rs ++ others) w i (subst (λ z. AreStatements z (rs ++ others)) (sym closed) (on lacks))
  close_more text rules e (unopened b bs w i none) = let n = none_open (b ∷ bs) none in absurd (omega (arith, n, e))
  close_more text rules e (rule_set b bs rule rs w i some r p) =
      of_ends (λ h. close_more (behind_block 0 (drop 1 (behind (is_other 123) (b ∷ bs)))) rs h p) ends.ends
    where
      inner : List ℕ
      inner = drop 1 (behind (is_other 123) (b ∷ bs))

      ends : BlockEnds rest 0 inner
      ends = block_ends rest 0 inner (sym (open_front (b ∷ bs) some) ∙ e)

      front : (leading (is_other 123) (b ∷ bs ++ 125 ∷ rest) ≡ leading (is_other 123) (b ∷ bs)) × (behind (is_other 123) (b ∷ bs ++ 125 ∷ rest) ≡ behind (is_other 123) (b ∷ bs) ++ 125 ∷ rest)
      front = front_more (b ∷ bs) (125 ∷ rest) some

      inner_is : drop 1 (behind (is_other 123) (b ∷ bs ++ 125 ∷ rest)) ≡ inner ++ 125 ∷ rest
      inner_is = ap (drop 1) front.1 ∙ drop_front (behind (is_other 123) (b ∷ bs)) (125 ∷ rest) some

      begun : 0 < length (behind (is_other 123) (b ∷ bs ++ 125 ∷ rest))
      begun = subst (λ z. 0 < length z) (sym front.1) (longer (behind (is_other 123) (b ∷ bs)) (125 ∷ rest) some)

      same_rule : IsRuleSet (leading (is_other 123) (b ∷ bs ++ 125 ∷ rest)) (block_to 0 (drop 1 (behind (is_other 123) (b ∷ bs ++ 125 ∷ rest)))) rule
      same_rule =
          subst (λ z. IsRuleSet z (block_to 0 (drop 1 (behind (is_other 123) (b ∷ bs ++ 125 ∷ rest)))) rule) (sym front.0)
          (subst (λ z. IsRuleSet (leading (is_other 123) (b ∷ bs)) z rule) (sym (ap (block_to 0) inner_is ∙ ends.block)) r)

      whole : (more : List RuleValue) → AreStatements (behind_block 0 (inner ++ 125 ∷ rest)) more → AreStatements (b ∷ bs ++ 125 ∷ rest) (with_found rule more)
      whole more q = rule_set b (bs ++ 125 ∷ rest) rule more w i begun same_rule (subst (λ z. AreStatements (behind_block 0 z) more) (sym inner_is) q)

      of_ends : (depth_after 0 (behind_block 0 inner) ≡ 1 → AreStatements (behind_block 0 inner ++ 125 ∷ rest) (rs ++ others)) →
          Ends rest (behind_block 0 inner) (behind_block 0 (inner ++ 125 ∷ rest)) → AreStatements (b ∷ bs ++ 125 ∷ rest) (with_found rule rs ++ others)
      of_ends on (inl (none, closed)) =
          subst (λ z. AreStatements (b ∷ bs ++ 125 ∷ rest) (with_found rule z ++ others)) (sym (nothing_says (behind_block 0 inner) rs none p))
          (subst (AreStatements (b ∷ bs ++ 125 ∷ rest)) (sym (found_front rule [] others)) (whole others (subst (λ z. AreStatements z others) (sym closed) behind_it)))
      of_ends on (inr (lacks, closed)) =
          subst (AreStatements (b ∷ bs ++ 125 ∷ rest)) (sym (found_front rule rs others))
          (whole (rs ++ others) (subst (λ z. AreStatements z (rs ++ others)) (sym closed) (on lacks)))

seen_closed : (text rest : List ℕ) → place_after_text Outside text ≡ Outside → plain_text (text ++ 125 ∷ rest) ≡ plain_text text ++ 125 ∷ plain_text rest
seen_closed text rest e = seen_on 125 rest refl refl Outside text e

pub open_block_ends_lem : OpenBlockEnds
open_block_ends_lem text rules lacks p =
    subst (λ z. AreStatements z rules) (sym (seen_closed text [] lacks.outside))
    (subst (AreStatements (plain_text text ++ 125 ∷ [])) (append-nil rules) (close_more [] [] end (plain_text text) rules lacks.one_open p))

pub sheets_follow_lem : SheetsFollow
sheets_follow_lem text second rules others lacks p q =
    subst (λ z. IsSheet z (rules ++ others)) (sym (append_assoc text (125 ∷ []) second))
    (subst (λ z. AreStatements z (rules ++ others)) (sym (seen_closed text second lacks.outside))
    (subst (λ z. AreStatements (plain_text text ++ 125 ∷ plain_text second) (z ++ others)) (one_sheet_lem (text ++ 125 ∷ []) found.0 rules (open_block_ends_lem text found.0 lacks found.1) p)
    (close_more (plain_text second) others q (plain_text text) found.0 lacks.one_open found.1)))
  where
    found : (all : List RuleValue) × IsSheet text all
    found = some_sheet_lem text

semicolon_ends : (inner rest : List ℕ) → list_any ends_at_rule inner ≡ false → behind_at_rule (inner ++ 59 ∷ rest) ≡ rest
semicolon_ends [] rest h = refl
semicolon_ends (b ∷ bs) rest h =
    let first = (or_parts (ends_at_rule b) (list_any ends_at_rule bs) h).0 in
    let semicolon : (b == 59) ≡ false = (or_parts (b == 59) (b == 123) first).0 in
    let brace : (b == 123) ≡ false = (or_parts (b == 59) (b == 123) first).1 in
    let on = semicolon_ends bs rest ((or_parts (ends_at_rule b) (list_any ends_at_rule bs) h).1) in
    rw (semicolon, brace) on

pub at_rule_says_nothing_lem : AtRuleSaysNothing
at_rule_says_nothing_lem inner rest rules outside none p =
    at_rule 64 (plain_text (inner ++ 59 ∷ rest)) rules refl refl
    (subst (λ z. AreStatements (behind_at_rule z) rules) (sym (seen_on 59 rest refl refl Outside inner outside))
    (subst (λ z. AreStatements z rules) (sym (semicolon_ends (plain_text inner) (plain_text rest) none)) p))
