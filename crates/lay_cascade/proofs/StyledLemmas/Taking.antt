-- The greatest declarations, with one more or with those of a rule set.
use Rattle.std.proofs.Common.{◌≡◌, ◌∙◌, ℕ, zero, suc, ◌+◌, ◌<◌, ◌≤◌, ◌⊎◌, inl, inr, List, [], ◌∷◌, ◌++◌, Bool, true, false, length, take, replicate, refl, sym, ap, subst, arith, set, append_assoc}
use Rattle.std.specs.Prelude.{slice_index_or, Option, Some, None, if◌then◌else◌}
use Rattle.std.specs.List.{slice_get, Contains}
use Rattle.std.proofs.lemmas.Bool.{eq-eqb, eqb-true, cases_eq}
use Rattle.std.proofs.lemmas.List.{get_or-set_same, get_or-set_other, length-set, get_or-replicate, length-replicate, take_more, flat_map_more}
use Rattle.std.proofs.lemmas.Option.{slice_get_within}
use Rattle.std.proofs.lemmas.List.Elements.{Contains-push, Contains-push_cases, Contains-append_left}
use Rattle.lay_style.specs.declared.property.Property.{Property}
use Rattle.lay_style.specs.PropertyNumbers.{number_of, is_same_property}
use Rattle.lay_doc.specs.declared.node.Node.{Node}
use Rattle.lay_doc.specs.Document.{is_text_at}
use Rattle.lay_cascade.specs.declared.node_names.names.Names.{Names}
use Rattle.lay_sheet.specs.Sheets.{RuleValue}
use Rattle.lay_sheet.specs.declared.selector.Step.{Step}
use Rattle.lay_sheet.specs.declared.declaration.SheetDecl.{SheetDecl}
use Rattle.lay_cascade.specs.declared.counts.Specificity.{Specificity}
use Rattle.lay_cascade.specs.Matching.{IsMatched}
use Rattle.lay_cascade.specs.Specificity.{specificity_of}
use Rattle.lay_cascade.specs.declared.styled.entry.Entry.{Entry}
use Rattle.lay_cascade.specs.declared.styled.candidates.Candidate.{Candidate}
use Rattle.lay_cascade.specs.Styled.Weights.{key_of, is_lighter}
use Rattle.lay_cascade.specs.Styled.Winners.{sheet_candidate, better, with_candidate, with_decls}
use Rattle.lay_cascade.specs.Styled.Index.{listed, of_classes}
use Rattle.lay_cascade.specs.Styled.Cascade.{IsBy, IsGreatest}
use Rattle.lay_cascade.specs.Styled.Seen.{IsBySome, AreWinnersOf}
use Rattle.lay_cascade.proofs.StyledLemmas.Keys.{less_self, less_chain}
use Rattle.lay_cascade.proofs.StyledLemmas.Numbers.{number_below}

some-same : (c d : Candidate) → Some c ≡ Some d → c ≡ d
some-same c d e = cc

none-some : (c : Candidate) → None ≡ Some c → ⊥
none-some c e = absurd cc

pub greatest_same : (P Q : Candidate → Type 0) (found : Option Candidate) → ((c : Candidate) → P c → Q c) → ((c : Candidate) → Q c → P c) → IsGreatest P found → IsGreatest Q found
greatest_same P Q found to from g = record {
  some = λ c e. to c (g.some c e);
  none = λ c e q. g.none c e (from c q);
  greatest = λ c d e q. g.greatest c d e (from d q);
}

-- with one more
module _ (P : Candidate → Type 0) (next : Candidate) where
  abbrev Or : Candidate → Type 0
  Or c = P c ⊎ (c ≡ next)

  with_next : IsGreatest P None → IsGreatest Or (Some next)
  with_next g = record {
    some = λ c e. inr (sym (some-same next c e));
    none = λ c e q. none-some next (sym e);
    greatest = λ c d e q. over c d e q;
  }
    where
      over : (c d : Candidate) → Some next ≡ Some c → P d ⊎ (d ≡ next) → is_lighter c.weight d.weight ≡ false
      over c d e (inl p) = absurd (g.none d refl p)
      over c d e (inr q) = let f = q ∙ some-same next c e in subst (λ (z : Candidate). is_lighter c.weight z.weight ≡ false) (sym f) (less_self (key_of c.weight))

  next_over : (b : Candidate) → is_lighter b.weight next.weight ≡ true → IsGreatest P (Some b) → IsGreatest Or (Some next)
  next_over b less g = record {
    some = λ c e. inr (sym (some-same next c e));
    none = λ c e q. none-some next (sym e);
    greatest = λ c d e q. over c d e q;
  }
    where
      over : (c d : Candidate) → Some next ≡ Some c → P d ⊎ (d ≡ next) → is_lighter c.weight d.weight ≡ false
      over c d e (inl p) =
          let h = less_chain (key_of b.weight) (key_of next.weight) (key_of d.weight) (g.greatest b d refl p) less in
          subst (λ (z : Candidate). is_lighter z.weight d.weight ≡ false) (some-same next c e) h
      over c d e (inr q) = let f = q ∙ some-same next c e in subst (λ (z : Candidate). is_lighter c.weight z.weight ≡ false) (sym f) (less_self (key_of c.weight))

  next_under : (b : Candidate) → is_lighter b.weight next.weight ≡ false → IsGreatest P (Some b) → IsGreatest Or (Some b)
  next_under b more g = record {
    some = λ c e. inl (g.some c e);
    none = λ c e q. none-some b (sym e);
    greatest = λ c d e q. over c d e q;
  }
    where
      over : (c d : Candidate) → Some b ≡ Some c → P d ⊎ (d ≡ next) → is_lighter c.weight d.weight ≡ false
      over c d e (inl p) = g.greatest c d e p
      over c d e (inr q) =
          subst (λ (z : Candidate). is_lighter z.weight d.weight ≡ false) (some-same b c e)
          (subst (λ (z : Candidate). is_lighter b.weight z.weight ≡ false) (sym q) more)

  better_greatest : (best : Option Candidate) → IsGreatest P best → IsGreatest Or (better best next)
  better_greatest None g = with_next g
  better_greatest (Some b) g = of_less (is_lighter b.weight next.weight) refl
    where
      of_less : (t : Bool) → is_lighter b.weight next.weight ≡ t → IsGreatest Or (if t then Some next else Some b)
      of_less true e = next_over b e g
      of_less false e = next_under b e g

-- the greatest for each property
pub record AreGreatest (P : Property → Candidate → Type 0) (winners : List (Option Candidate)) : Type 0 where
  pub count : length winners ≡ 46
  pub each : (p : Property) → IsGreatest (P p) (slice_index_or winners (number_of p) None)

pub all_same : (P Q : Property → Candidate → Type 0) (winners : List (Option Candidate)) → ((p : Property) (c : Candidate) → P p c → Q p c) → ((p : Property) (c : Candidate) → Q p c → P p c) →
    AreGreatest P winners → AreGreatest Q winners
all_same P Q winners to from g = record { count = g.count; each = λ p. greatest_same (P p) (Q p) (slice_index_or winners (number_of p) None) (to p) (from p) (g.each p) }

module _ (P : Property → Candidate → Type 0) (winners : List (Option Candidate)) (next : Candidate) (was : AreGreatest P winners) where
  abbrev Is : Property → Candidate → Type 0
  Is p c = P p c ⊎ ((is_same_property p next.decl.property ≡ true) × (c ≡ next))

  abbrev n : ℕ
  n = number_of next.decl.property

  abbrev entry : Option Candidate
  entry = better (slice_index_or winners (number_of next.decl.property) None) next

  within : n < length winners
  within = let h = number_below next.decl.property in let k = was.count in omega (arith, h, k)

  here : (p : Property) → number_of p ≡ n → IsGreatest (Is p) (slice_index_or (set winners n entry) (number_of p) None)
  here p e =
      subst (IsGreatest (Is p)) (sym (get_or-set_same winners n entry None within) ∙ ap (λ k. slice_index_or (set winners n entry) k None) (sym e))
      (greatest_same (λ c. P p c ⊎ (c ≡ next)) (Is p) entry to from (better_greatest (P p) next (slice_index_or winners n None) (subst (λ k. IsGreatest (P p) (slice_index_or winners k None)) e (was.each p))))
    where
      to : (c : Candidate) → P p c ⊎ (c ≡ next) → Is p c
      to c (inl q) = inl q
      to c (inr q) = inr (eq-eqb (number_of p) n e, q)

      from : (c : Candidate) → Is p c → P p c ⊎ (c ≡ next)
      from c (inl q) = inl q
      from c (inr w) = inr w.1

  there : (p : Property) → (number_of p ≡ n → ⊥) → IsGreatest (Is p) (slice_index_or (set winners n entry) (number_of p) None)
  there p ne =
      subst (IsGreatest (Is p)) (sym (get_or-set_other winners n (number_of p) entry None ne))
      (greatest_same (P p) (Is p) (slice_index_or winners (number_of p) None) (λ c q. inl q) from (was.each p))
    where
      from : (c : Candidate) → Is p c → P p c
      from c (inl q) = q
      from c (inr w) = absurd (ne (eqb-true (number_of p) n w.0))

  pub with_one : AreGreatest Is (with_candidate winners next)
  with_one = record {
    count = length-set winners n entry ∙ was.count;
    each = λ p. of_cases p (cases_eq (number_of p) n);
  }
    where
      of_cases : (p : Property) → (number_of p ≡ n) ⊎ (number_of p ≡ n → ⊥) → IsGreatest (Is p) (slice_index_or (set winners n entry) (number_of p) None)
      of_cases p (inl e) = here p e
      of_cases p (inr ne) = there p ne

-- a declaration of a rule set from a place on
abbrev pub IsOf : Specificity → ℕ → ℕ → List SheetDecl → Property → Candidate → Type 0
IsOf s r from decls p c = (i : ℕ) × (decl : SheetDecl) × (slice_get decls i ≡ Some decl) × (is_same_property p decl.decl.property ≡ true) × (c ≡ sheet_candidate s r (from + i) decl)

abbrev with_decl : (Property → Candidate → Type 0) → Specificity → ℕ → ℕ → SheetDecl → Property → Candidate → Type 0
with_decl P s r from d p c = P p c ⊎ ((is_same_property p d.decl.property ≡ true) × (c ≡ sheet_candidate s r from d))

same-decl : (a b : SheetDecl) → Some a ≡ Some b → a ≡ b
same-decl a b e = cc

none-decl : (a : SheetDecl) → None ≡ Some a → ⊥
none-decl a e = absurd cc

pub with_more : (P : Property → Candidate → Type 0) (s : Specificity) (r from : ℕ) (decls : List SheetDecl) (winners : List (Option Candidate)) → AreGreatest P winners →
    AreGreatest (λ p c. P p c ⊎ IsOf s r from decls p c) (with_decls s r from decls winners)
with_more P s r from [] winners was = all_same P (λ p c. P p c ⊎ IsOf s r from [] p c) winners (λ p c q. inl q) back was
  where
    back : (p : Property) (c : Candidate) → P p c ⊎ IsOf s r from [] p c → P p c
    back p c (inl q) = q
    back p c (inr w) = absurd (none-decl w.1 w.2)
with_more P s r from (d ∷ ds) winners was =
    all_same (λ p c. with_decl P s r from d p c ⊎ IsOf s r (from + 1) ds p c) (λ p c. P p c ⊎ IsOf s r from (d ∷ ds) p c) (with_decls s r (from + 1) ds (with_candidate winners (sheet_candidate s r from d))) to back
    (with_more (with_decl P s r from d) s r (from + 1) ds (with_candidate winners (sheet_candidate s r from d)) (with_one P winners (sheet_candidate s r from d) was))
  where
    shift : (i : ℕ) (decl : SheetDecl) → sheet_candidate s r (from + 1 + i) decl ≡ sheet_candidate s r (from + suc i) decl
    shift i decl = let e : from + 1 + i ≡ from + suc i = omega arith in ap (λ k. sheet_candidate s r k decl) e

    start : (decl : SheetDecl) → sheet_candidate s r from decl ≡ sheet_candidate s r (from + 0) decl
    start decl = let e : from ≡ from + 0 = omega arith in ap (λ k. sheet_candidate s r k decl) e

    to : (p : Property) (c : Candidate) → with_decl P s r from d p c ⊎ IsOf s r (from + 1) ds p c → P p c ⊎ IsOf s r from (d ∷ ds) p c
    to p c (inl (inl q)) = inl q
    to p c (inl (inr w)) = inr (0, d, refl, w.0, w.1 ∙ start d)
    to p c (inr w) = inr (suc w.0, w.1, w.2, w.3, w.4 ∙ shift w.0 w.1)

    of_place : (p : Property) (c : Candidate) (i : ℕ) (decl : SheetDecl) → slice_get (d ∷ ds) i ≡ Some decl → is_same_property p decl.decl.property ≡ true → c ≡ sheet_candidate s r (from + i) decl → with_decl P s r from d p c ⊎ IsOf s r (from + 1) ds p c
    of_place p c zero decl e same is =
        let q = same-decl d decl e in
        inl (inr (subst (λ (z : SheetDecl). is_same_property p z.decl.property ≡ true) (sym q) same, is ∙ sym (start decl) ∙ ap (λ z. sheet_candidate s r from z) (sym q)))
    of_place p c (suc i) decl e same is = inr (i, decl, e, same, is ∙ sym (shift i decl))

    back : (p : Property) (c : Candidate) → P p c ⊎ IsOf s r from (d ∷ ds) p c → with_decl P s r from d p c ⊎ IsOf s r (from + 1) ds p c
    back p c (inl q) = inl (inl q)
    back p c (inr w) = of_place p c w.0 w.1 w.2 w.3 w.4

same-rule : (a b : RuleValue) → Some a ≡ Some b → a ≡ b
same-rule a b q = cc

same-steps : (a b : List Step) → Some a ≡ Some b → a ≡ b
same-steps a b q = cc

from_start : (s : Specificity) (r i : ℕ) (decl : SheetDecl) → sheet_candidate s r (0 + i) decl ≡ sheet_candidate s r i decl
from_start s r i decl = let e : 0 + i ≡ i = omega arith in ap (λ k. sheet_candidate s r k decl) e

-- by one more selector of the sheet
module _ (rules : List RuleValue) (nodes : List Node) (names : List Names) (k : ℕ) (seen : List Entry) (e : Entry) (winners : List (Option Candidate)) where
  abbrev Before : Property → Candidate → Type 0
  Before p c = IsBySome rules nodes names k seen p c

  abbrev Both : RuleValue → List Step → Property → Candidate → Type 0
  Both rule selector p c = IsBySome rules nodes names k seen p c ⊎ IsOf (specificity_of selector) e.rule 0 rule.decls p c

  abbrev After : Property → Candidate → Type 0
  After p c = IsBySome rules nodes names k (seen ++ e ∷ []) p c

  left : (p : Property) (c : Candidate) → Before p c → After p c
  left p c w = (w.0, Contains-append_left seen (e ∷ []) w.0 w.1, w.2)

  -- which has none for the node
  pub passed : ((p : Property) (c : Candidate) → IsBy rules nodes names k p e c → ⊥) → AreWinnersOf rules nodes names k seen winners → AreWinnersOf rules nodes names k (seen ++ e ∷ []) winners
  passed none was = record { count = was.count; each = λ p. greatest_same (Before p) (After p) (slice_index_or winners (number_of p) None) (left p) (back p) (was.each p) }
    where
      of_cases : (p : Property) (c : Candidate) (f : Entry) → IsBy rules nodes names k p f c → Contains seen f ⊎ (e ≡ f) → Before p c
      of_cases p c f by (inl w) = (f, w, by)
      of_cases p c f by (inr q) = absurd (none p c (subst (λ z. IsBy rules nodes names k p z c) (sym q) by))

      back : (p : Property) (c : Candidate) → After p c → Before p c
      back p c w = of_cases p c w.0 w.2 (Contains-push_cases seen e w.0 w.1)

  -- as it isn't there
  pub passed_rule : length rules ≤ e.rule → AreWinnersOf rules nodes names k seen winners → AreWinnersOf rules nodes names k (seen ++ e ∷ []) winners
  passed_rule past was = passed (λ p c by. let h = slice_get_within rules e.rule by.rule by.is_rule in absurd (omega (arith, past, h))) was

  pub passed_selector : (rule : RuleValue) → slice_get rules e.rule ≡ Some rule → length rule.selectors ≤ e.selector → AreWinnersOf rules nodes names k seen winners → AreWinnersOf rules nodes names k (seen ++ e ∷ []) winners
  passed_selector rule is_rule past was = passed none was
    where
      none : (p : Property) (c : Candidate) → IsBy rules nodes names k p e c → ⊥
      none p c by =
          let h = slice_get_within by.rule.selectors e.selector by.selector by.is_selector in
          let l = subst (λ (z : RuleValue). e.selector < length z.selectors) (same-rule by.rule rule (sym by.is_rule ∙ is_rule)) h in
          absurd (omega (arith, past, l))

  -- or doesn't match
  pub passed_match : (rule : RuleValue) (selector : List Step) → slice_get rules e.rule ≡ Some rule → slice_get rule.selectors e.selector ≡ Some selector → (IsMatched nodes names selector k → ⊥) → AreWinnersOf rules nodes names k seen winners → AreWinnersOf rules nodes names k (seen ++ e ∷ []) winners
  passed_match rule selector is_rule is_selector never was = passed none was
    where
      none : (p : Property) (c : Candidate) → IsBy rules nodes names k p e c → ⊥
      none p c by =
          let q = same-rule by.rule rule (sym by.is_rule ∙ is_rule) in
          let s = same-steps by.selector selector (sym by.is_selector ∙ ap (λ (z : RuleValue). slice_get z.selectors e.selector) q ∙ is_selector) in
          never (subst (λ z. IsMatched nodes names z k) s by.matched)

  -- which matches the node
  pub taken : (rule : RuleValue) (selector : List Step) → slice_get rules e.rule ≡ Some rule → slice_get rule.selectors e.selector ≡ Some selector → is_text_at nodes k ≡ false → IsMatched nodes names selector k →
      AreWinnersOf rules nodes names k seen winners → AreWinnersOf rules nodes names k (seen ++ e ∷ []) (with_decls (specificity_of selector) e.rule 0 rule.decls winners)
  taken rule selector is_rule is_selector no_text matched was = let all = done in record { count = all.count; each = all.each }
    where
      to : (p : Property) (c : Candidate) → Both rule selector p c → After p c
      to p c (inl w) = left p c w
      to p c (inr w) = (
        e,
        Contains-push seen e,
        record {
          rule = rule;
          selector = selector;
          place = w.0;
          decl = w.1;
          is_rule = is_rule;
          is_selector = is_selector;
          is_decl = w.2;
          no_text = no_text;
          matched = matched;
          property = w.3;
          is = w.4 ∙ from_start (specificity_of selector) e.rule w.0 w.1;
        },
      )

      here : (p : Property) (c : Candidate) → IsBy rules nodes names k p e c → IsOf (specificity_of selector) e.rule 0 rule.decls p c
      here p c by =
          let q = same-rule by.rule rule (sym by.is_rule ∙ is_rule) in
          let s = same-steps by.selector selector (sym by.is_selector ∙ ap (λ (z : RuleValue). slice_get z.selectors e.selector) q ∙ is_selector) in (
            by.place,
            by.decl,
            subst (λ (z : RuleValue). slice_get z.decls by.place ≡ Some by.decl) q by.is_decl,
            by.property,
            subst (λ z. c ≡ sheet_candidate (specificity_of z) e.rule by.place by.decl) s by.is ∙ sym (from_start (specificity_of selector) e.rule by.place by.decl),
          )

      of_cases : (p : Property) (c : Candidate) (f : Entry) → IsBy rules nodes names k p f c → Contains seen f ⊎ (e ≡ f) → Both rule selector p c
      of_cases p c f by (inl w) = inl (f, w, by)
      of_cases p c f by (inr q) = inr (here p c (subst (λ z. IsBy rules nodes names k p z c) (sym q) by))

      back : (p : Property) (c : Candidate) → After p c → Both rule selector p c
      back p c w = of_cases p c w.0 w.2 (Contains-push_cases seen e w.0 w.1)

      done : AreGreatest After (with_decls (specificity_of selector) e.rule 0 rule.decls winners)
      done = all_same (Both rule selector) After (with_decls (specificity_of selector) e.rule 0 rule.decls winners) to back
          (with_more Before (specificity_of selector) e.rule 0 rule.decls winners (record { count = was.count; each = was.each }))

abbrev nobody : Option Candidate
nobody = None

no_selector : (e : Entry) → Contains [] e → ⊥
no_selector e w = let h = w.1 in absurd (omega (arith, h))

pub none_yet : (rules : List RuleValue) (nodes : List Node) (names : List Names) (k : ℕ) (winners : List (Option Candidate)) → winners ≡ replicate 46 None → AreWinnersOf rules nodes names k [] winners
none_yet rules nodes names k winners is = record {
  count = ap length is ∙ length-replicate 46 nobody;
  each = λ p. record {
    some = λ c e. absurd (none-some c (sym (at p) ∙ e));
    none = λ c e w. no_selector w.0 w.1;
    greatest = λ c d e w. absurd (no_selector w.0 w.1);
  };
}
  where
    at : (p : Property) → slice_index_or winners (number_of p) None ≡ None
    at p = ap (λ z. slice_index_or z (number_of p) None) is ∙ get_or-replicate 46 (number_of p) nobody nobody (number_below p)

-- one more selector of a list, and the selectors of one more class
pub more_entries : (rules : List RuleValue) (nodes : List Node) (names : List Names) (k : ℕ) (seen entries : List Entry) (i : ℕ) (e : Entry) (winners : List (Option Candidate)) → i < length entries → e ≡ slice_index_or entries i e →
    AreWinnersOf rules nodes names k ((seen ++ take i entries) ++ e ∷ []) winners → AreWinnersOf rules nodes names k (seen ++ take (i + 1) entries) winners
more_entries rules nodes names k seen entries i e winners h is was =
    subst (λ z. AreWinnersOf rules nodes names k z winners)
    (append_assoc seen (take i entries) (e ∷ []) ∙ ap (λ z. seen ++ z) (ap (λ z. take i entries ++ z ∷ []) is ∙ sym (take_more entries i e h))) was

pub more_classes : (rules : List RuleValue) (nodes : List Node) (names : List Names) (k : ℕ) (seen : List Entry) (by_name : List (List Entry)) (rest : List Entry) (classes : List (List ℕ)) (i : ℕ) (class : List ℕ) (winners : List (Option Candidate)) →
    i < length classes → class ≡ slice_index_or classes i class → AreWinnersOf rules nodes names k ((seen ++ of_classes by_name rest (take i classes)) ++ listed by_name rest (Some class)) winners →
    AreWinnersOf rules nodes names k (seen ++ of_classes by_name rest (take (i + 1) classes)) winners
more_classes rules nodes names k seen by_name rest classes i class winners h is was =
    subst (λ z. AreWinnersOf rules nodes names k z winners)
    (flat_map_more (λ c. listed by_name rest (Some c)) seen (take i classes) class
    ∙ ap (λ z. seen ++ of_classes by_name rest z) (ap (λ z. take i classes ++ z ∷ []) is ∙ sym (take_more classes i class h))) was

-- how many there are stays
pub length_decls : (s : Specificity) (r from : ℕ) (decls : List SheetDecl) (winners : List (Option Candidate)) → length (with_decls s r from decls winners) ≡ length winners
length_decls s r from [] winners = refl
length_decls s r from (d ∷ ds) winners =
    length_decls s r (from + 1) ds (with_candidate winners (sheet_candidate s r from d))
    ∙ length-set winners (number_of d.decl.property) (better (slice_index_or winners (number_of d.decl.property) None) (sheet_candidate s r from d))
