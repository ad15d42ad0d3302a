-- All selectors that match a node stand among those that are looked up for it.
use Rattle.std.proofs.Common.{◌≡◌, ◌∙◌, ℕ, suc, ◌+◌, ◌-◌, ◌*◌, ◌%◌, ◌<◌, ◌≤◌, ◌⊎◌, inl, inr, List, [], ◌∷◌, ◌++◌, true, length, take, reverse, refl, sym, ap, subst, arith, set}
use Rattle.std.specs.Prelude.{slice_index_or, Option, Some, None}
use Rattle.std.specs.List.{slice_get, Contains, list_any}
use Rattle.std.specs.Str.{bytes_eq}
use Rattle.std.specs.Cmp.Lexicographic.{same_text}
use Rattle.std.proofs.lemmas.Bool.{false≢true, cases_eq, cases_lt, or_cases}
use Rattle.std.proofs.lemmas.List.{get_or-set_same, get_or-set_other, length-set, take_more, take_all, reverse-append}
use Rattle.std.proofs.lemmas.List.Elements.{Contains-push, Contains-append_left, Contains-append_right}
use Rattle.std.proofs.lemmas.Option.{slice_get_within, get_or_from_slice_get}
use Rattle.lay_style.specs.declared.property.Property.{Property}
use Rattle.lay_style.specs.PropertyNumbers.{number_of}
use Rattle.lay_doc.specs.declared.node.Node.{Node}
use Rattle.lay_cascade.specs.declared.node_names.names.Names.{Names}
use Rattle.lay_sheet.specs.declared.selector.Simple.{Simple}
use Rattle.lay_sheet.specs.declared.selector.Simple.TheVariants.{Universal, Tag, Class, Label}
use Rattle.lay_sheet.specs.declared.selector.Step.{Step}
use Rattle.lay_sheet.specs.Sheets.{RuleValue}
use Rattle.lay_cascade.specs.NodeNames.{fits, fits_at}
use Rattle.lay_cascade.specs.Matching.{Matches, IsMatched}
use Rattle.lay_cascade.proofs.Climbing.{fits_read}
use Rattle.lay_cascade.proofs.Leading.{head_fits}
use Rattle.lay_cascade.specs.declared.styled.entry.Entry.{Entry}
use Rattle.lay_cascade.specs.declared.styled.candidates.Candidate.{Candidate}
use Rattle.lay_cascade.specs.Styled.Index.{name_in, last_name, list_of, list_from, by_name_with, rest_with, listed, IsIndexedTo, IsIndexed, of_classes, looked_up}
use Rattle.lay_cascade.specs.Styled.Cascade.{IsBy, IsInSheet, AreWinners}
use Rattle.lay_cascade.specs.Styled.Seen.{IsBySome, AreWinnersOf}
use Rattle.lay_cascade.proofs.StyledLemmas.Taking.{greatest_same}

-- each name has a list
module _ (by_name : List (List Entry)) (rest : List Entry) (e : Entry) (count : length by_name ≡ 4096) where
  -- one more selector stands where it is looked up
  pub added_here : (name : Option (List ℕ)) → ((w : List ℕ) → name ≡ Some w → list_of w < 4096) → Contains (listed (by_name_with name e by_name) (rest_with name e rest) name) e
  added_here None below = Contains-push rest e
  added_here (Some w) below =
      let h = below w refl in
      let l : list_of w < length by_name = omega (arith, h, count) in
      subst (λ z. Contains z e) (sym (get_or-set_same by_name (list_of w) (slice_index_or by_name (list_of w) [] ++ e ∷ []) [] l)) (Contains-push (slice_index_or by_name (list_of w) []) e)

  -- and the others still do
  pub added_there : (name other : Option (List ℕ)) (f : Entry) → ((w : List ℕ) → name ≡ Some w → list_of w < 4096) → Contains (listed by_name rest other) f → Contains (listed (by_name_with name e by_name) (rest_with name e rest) other) f
  added_there None None f below w = Contains-append_left rest (e ∷ []) f w
  added_there None (Some v) f below w = w
  added_there (Some u) None f below w = w
  added_there (Some u) (Some v) f below w = of_cases (cases_eq (list_of v) (list_of u))
    where
      within : list_of u < length by_name
      within = let h = below u refl in omega (arith, h, count)

      of_cases : (list_of v ≡ list_of u) ⊎ (list_of v ≡ list_of u → ⊥) → Contains (slice_index_or (set by_name (list_of u) (slice_index_or by_name (list_of u) [] ++ e ∷ [])) (list_of v) []) f
      of_cases (inl q) =
          subst (λ z. Contains z f) (sym (ap (λ z. slice_index_or (set by_name (list_of u) (slice_index_or by_name (list_of u) [] ++ e ∷ [])) z []) q ∙ get_or-set_same by_name (list_of u) (slice_index_or by_name (list_of u) [] ++ e ∷ []) [] within))
          (Contains-append_left (slice_index_or by_name (list_of u) []) (e ∷ []) f (subst (λ z. Contains (slice_index_or by_name z []) f) q w))
      of_cases (inr ne) = subst (λ z. Contains z f) (sym (get_or-set_other by_name (list_of u) (list_of v) (slice_index_or by_name (list_of u) [] ++ e ∷ []) [] ne)) w

  length_added : (name : Option (List ℕ)) → length (by_name_with name e by_name) ≡ 4096
  length_added None = count
  length_added (Some w) = length-set by_name (list_of w) (slice_index_or by_name (list_of w) [] ++ e ∷ []) ∙ count

same-rule : (a b : RuleValue) → Some a ≡ Some b → a ≡ b
same-rule a b q = cc

same-steps : (a b : List Step) → Some a ≡ Some b → a ≡ b
same-steps a b q = cc

abbrev of_two : ℕ → ℕ → Entry
of_two r s = record { rule = r; selector = s }

same_entry : (a b : Entry) → a.rule ≡ b.rule → a.selector ≡ b.selector → a ≡ b
same_entry a b e f = step
  where
    step : of_two a.rule a.selector ≡ of_two b.rule b.selector
    step = rw (e, f) refl

pub indexed_more : (rules : List RuleValue) (by_name : List (List Entry)) (rest : List Entry) (r s : ℕ) (e : Entry) (rule : RuleValue) (selector : List Step) → ((w : List ℕ) → list_of w < 4096) → e.rule ≡ r → e.selector ≡ s →
    slice_get rules r ≡ Some rule → slice_get rule.selectors s ≡ Some selector → IsIndexedTo rules by_name rest r s →
    IsIndexedTo rules (by_name_with (last_name selector) e by_name) (rest_with (last_name selector) e rest) r (s + 1)
indexed_more rules by_name rest r s e rule selector below e_rule e_selector is_rule is_selector was = record {
  count = length_added by_name rest e was.count (last_name selector);
  each = λ f ru st g h o. each f ru st g h o;
}
  where
    older : (f : Entry) (ru : RuleValue) (st : List Step) → slice_get rules f.rule ≡ Some ru → slice_get ru.selectors f.selector ≡ Some st → (f.rule < r) ⊎ ((f.rule ≡ r) × (f.selector < s)) →
        Contains (listed (by_name_with (last_name selector) e by_name) (rest_with (last_name selector) e rest) (last_name st)) f
    older f ru st g h o = added_there by_name rest e was.count (last_name selector) (last_name st) f (λ w q. below w) (was.each f ru st g h o)

    newer : (f : Entry) (ru : RuleValue) (st : List Step) → slice_get rules f.rule ≡ Some ru → slice_get ru.selectors f.selector ≡ Some st → f.rule ≡ r → f.selector ≡ s →
        Contains (listed (by_name_with (last_name selector) e by_name) (rest_with (last_name selector) e rest) (last_name st)) f
    newer f ru st g h a b =
        let one_rule = same-rule ru rule (sym g ∙ ap (slice_get rules) a ∙ is_rule) in
        let one = same-steps st selector (sym h ∙ ap (λ (z : RuleValue). slice_get z.selectors f.selector) one_rule ∙ ap (slice_get rule.selectors) b ∙ is_selector) in
        let same : e ≡ f = same_entry e f (e_rule ∙ sym a) (e_selector ∙ sym b) in
        subst (λ z. Contains (listed (by_name_with (last_name selector) e by_name) (rest_with (last_name selector) e rest) (last_name z)) f) (sym one)
        (subst (λ z. Contains (listed (by_name_with (last_name selector) e by_name) (rest_with (last_name selector) e rest) (last_name selector)) z) same
        (added_here by_name rest e was.count (last_name selector) (λ w q. below w)))

    of_place : (f : Entry) (ru : RuleValue) (st : List Step) → slice_get rules f.rule ≡ Some ru → slice_get ru.selectors f.selector ≡ Some st → f.rule ≡ r → f.selector < s + 1 → (f.selector < s) ⊎ (s ≤ f.selector) →
        Contains (listed (by_name_with (last_name selector) e by_name) (rest_with (last_name selector) e rest) (last_name st)) f
    of_place f ru st g h a l (inl m) = older f ru st g h (inr (a, m))
    of_place f ru st g h a l (inr m) = newer f ru st g h a (omega (arith, l, m))

    each : (f : Entry) (ru : RuleValue) (st : List Step) → slice_get rules f.rule ≡ Some ru → slice_get ru.selectors f.selector ≡ Some st → (f.rule < r) ⊎ ((f.rule ≡ r) × (f.selector < s + 1)) →
        Contains (listed (by_name_with (last_name selector) e by_name) (rest_with (last_name selector) e rest) (last_name st)) f
    each f ru st g h (inl l) = older f ru st g h (inl l)
    each f ru st g h (inr w) = of_place f ru st g h w.0 w.1 (cases_lt f.selector s)

pub indexed_rule : (rules : List RuleValue) (by_name : List (List Entry)) (rest : List Entry) (r s : ℕ) (rule : RuleValue) → slice_get rules r ≡ Some rule → length rule.selectors ≤ s → IsIndexedTo rules by_name rest r s → IsIndexedTo rules by_name rest (r + 1) 0
indexed_rule rules by_name rest r s rule is_rule all was = record { count = was.count; each = λ f ru st g h o. each f ru st g h o }
  where
    of_place : (f : Entry) (ru : RuleValue) (st : List Step) → slice_get rules f.rule ≡ Some ru → slice_get ru.selectors f.selector ≡ Some st → f.rule < r + 1 → (f.rule < r) ⊎ (r ≤ f.rule) → Contains (listed by_name rest (last_name st)) f
    of_place f ru st g h l (inl m) = was.each f ru st g h (inl m)
    of_place f ru st g h l (inr m) =
        let a : f.rule ≡ r = omega (arith, l, m) in
        let one = same-rule ru rule (sym g ∙ ap (slice_get rules) a ∙ is_rule) in
        let k = slice_get_within ru.selectors f.selector st h in
        let b : f.selector < length rule.selectors = subst (λ (z : RuleValue). f.selector < length z.selectors) one k in
        was.each f ru st g h (inr (a, omega (arith, b, all)))

    each : (f : Entry) (ru : RuleValue) (st : List Step) → slice_get rules f.rule ≡ Some ru → slice_get ru.selectors f.selector ≡ Some st → (f.rule < r + 1) ⊎ ((f.rule ≡ r + 1) × (f.selector < 0)) → Contains (listed by_name rest (last_name st)) f
    each f ru st g h (inl l) = of_place f ru st g h l (cases_lt f.rule r)
    each f ru st g h (inr w) = let n = w.1 in absurd (omega (arith, n))

pub indexed_none : (rules : List RuleValue) (by_name : List (List Entry)) (rest : List Entry) → length by_name ≡ 4096 → IsIndexedTo rules by_name rest 0 0
indexed_none rules by_name rest count = record { count = count; each = λ f ru st g h o. absurd (none f o) }
  where
    none : (f : Entry) → (f.rule < 0) ⊎ ((f.rule ≡ 0) × (f.selector < 0)) → ⊥
    none f (inl l) = absurd (omega (arith, l))
    none f (inr w) = let n = w.1 in absurd (omega (arith, n))

-- the last step of a selector
last_is : (steps : List Step) → 0 < length steps → (step : Step) × (slice_get steps (length steps - 1) ≡ Some step)
last_is [] some = absurd (omega (arith, some))
last_is (s ∷ []) some = (s, refl)
last_is (s ∷ t ∷ ts) some =
    let w = last_is (t ∷ ts) (omega arith) in
    let e : suc (suc (length ts)) - 1 ≡ suc (suc (length ts) - 1) = omega arith in
    (w.0, ap (slice_get (s ∷ t ∷ ts)) e ∙ w.1)

module _ (nodes : List Node) (names : List Names) (k : ℕ) where
  nowhere : Matches nodes names [] k → ⊥
  nowhere w = elim w [ ]

  -- a node that a selector matches fits its last step
  fits_with : (selector : List Step) (n : ℕ) (step : Step) → length selector ≡ n + 1 → slice_get selector n ≡ Some step → IsMatched nodes names selector k → fits_at names k step.simple ≡ true
  fits_with selector n step count is w =
      let read = get_or_from_slice_get selector n step step is in
      let inside = slice_get_within selector n step is in
      let more = take_more selector n step inside ∙ ap (λ z. take n selector ++ z ∷ []) read in
      let few : length selector ≤ n + 1 = omega (arith, count) in
      let all = take_all (n + 1) selector few in
      let head = ap reverse (sym all ∙ more) ∙ reverse-append (take n selector) (step ∷ []) in
      head_fits nodes names step (reverse selector) (reverse (take n selector)) k head w

  fits_the_last : (selector : List Step) → IsMatched nodes names selector k → (step : Step) × (slice_get selector (length selector - 1) ≡ Some step) × (fits_at names k step.simple ≡ true)
  fits_the_last [] w = absurd (nowhere w)
  fits_the_last (s ∷ ss) w =
      let l = last_is (s ∷ ss) (omega arith) in
      let e : length (s ∷ ss) ≡ (length (s ∷ ss) - 1) + 1 = omega arith in
      (l.0, l.1, fits_with (s ∷ ss) (length (s ∷ ss) - 1) l.0 e l.1 w)

module _ (by_name : List (List Entry)) (rest : List Entry) (e : Entry) where
  in_classes : (classes : List (List ℕ)) (name : List ℕ) → list_any (λ class. bytes_eq class name) classes ≡ true → Contains (listed by_name rest (Some name)) e → Contains (of_classes by_name rest classes) e
  in_classes [] name is w = absurd (false≢true is)
  in_classes (c ∷ cs) name is w = of_cases (λ q. in_classes cs name q w) (or_cases (bytes_eq c name) (list_any (λ class. bytes_eq class name) cs) is)
    where
      of_cases : (list_any (λ class. bytes_eq class name) cs ≡ true → Contains (of_classes by_name rest cs) e) → (bytes_eq c name ≡ true) ⊎ (list_any (λ class. bytes_eq class name) cs ≡ true) → Contains (listed by_name rest (Some c) ++ of_classes by_name rest cs) e
      of_cases on (inl q) = let same = same_text c name (sym q) in Contains-append_left (listed by_name rest (Some c)) (of_classes by_name rest cs) e (subst (λ z. Contains (listed by_name rest (Some z)) e) (sym same) w)
      of_cases on (inr q) = Contains-append_right (listed by_name rest (Some c)) (of_classes by_name rest cs) e (on q)

  -- what fits a node's names stands where they are looked up
  fitting_in : (n : Names) (simple : Simple) → fits n simple ≡ true → Contains (listed by_name rest (name_in simple)) e → Contains (looked_up by_name rest n) e
  fitting_in n Universal is w = Contains-append_right ((listed by_name rest (Some n.tag) ++ listed by_name rest (Some n.label)) ++ of_classes by_name rest n.classes) rest e w
  fitting_in n (Tag name) is w =
      let same = same_text n.tag name (sym is) in
      Contains-append_left ((listed by_name rest (Some n.tag) ++ listed by_name rest (Some n.label)) ++ of_classes by_name rest n.classes) rest e
      (Contains-append_left (listed by_name rest (Some n.tag) ++ listed by_name rest (Some n.label)) (of_classes by_name rest n.classes) e
      (Contains-append_left (listed by_name rest (Some n.tag)) (listed by_name rest (Some n.label)) e (subst (λ z. Contains (listed by_name rest (Some z)) e) (sym same) w)))
  fitting_in n (Label name) is w =
      let same = same_text n.label name (sym is) in
      Contains-append_left ((listed by_name rest (Some n.tag) ++ listed by_name rest (Some n.label)) ++ of_classes by_name rest n.classes) rest e
      (Contains-append_left (listed by_name rest (Some n.tag) ++ listed by_name rest (Some n.label)) (of_classes by_name rest n.classes) e
      (Contains-append_right (listed by_name rest (Some n.tag)) (listed by_name rest (Some n.label)) e (subst (λ z. Contains (listed by_name rest (Some z)) e) (sym same) w)))
  fitting_in n (Class name) is w =
      Contains-append_left ((listed by_name rest (Some n.tag) ++ listed by_name rest (Some n.label)) ++ of_classes by_name rest n.classes) rest e
      (Contains-append_right (listed by_name rest (Some n.tag) ++ listed by_name rest (Some n.label)) (of_classes by_name rest n.classes) e (in_classes n.classes name is w))

-- so all that a sheet has for a node is by the selectors that are looked up
pub all_looked_up : (rules : List RuleValue) (nodes : List Node) (names : List Names) (k : ℕ) (n : Names) (by_name : List (List Entry)) (rest : List Entry) (winners : List (Option Candidate)) → IsIndexed rules by_name rest →
    k < length names → n ≡ slice_index_or names k n → AreWinnersOf rules nodes names k (looked_up by_name rest n) winners → AreWinners rules nodes names k winners
all_looked_up rules nodes names k n by_name rest winners indexed here is was = record {
  count = was.count;
  each = λ p. greatest_same (IsBySome rules nodes names k (looked_up by_name rest n) p) (IsInSheet rules nodes names k p) (slice_index_or winners (number_of p) None) (λ c w. (w.0, w.2)) (λ c w. (w.0, seen p c w.0 w.1, w.1)) (was.each p);
}
  where
    seen : (p : Property) (c : Candidate) (e : Entry) → IsBy rules nodes names k p e c → Contains (looked_up by_name rest n) e
    seen p c e by =
        let l = fits_the_last nodes names k by.selector by.matched in
        let inside = slice_get_within rules e.rule by.rule by.is_rule in
        let fit : fits n l.0.simple ≡ true = ap (λ z. fits z l.0.simple) is ∙ fits_read names k n l.0.simple here ∙ l.2 in
        let named : last_name by.selector ≡ name_in l.0.simple = rw l.1 refl in
        fitting_in by_name rest e n l.0.simple fit
        (subst (λ z. Contains (listed by_name rest z) e) named (indexed.each e by.rule by.selector by.is_rule by.is_selector (inl inside)))

pub looked_up_is : (by_name : List (List Entry)) (rest : List Entry) (n : Names) (a b c d : List Entry) → a ≡ listed by_name rest (Some n.tag) → b ≡ listed by_name rest (Some n.label) → c ≡ of_classes by_name rest n.classes → d ≡ rest →
    ((a ++ b) ++ c) ++ d ≡ looked_up by_name rest n
looked_up_is by_name rest n a b c d p q r s = rw (p, q, r, s) refl

-- a name has one of the lists
list_below_from : (sum : ℕ) (name : List ℕ) → sum < 4096 → list_from sum name < 4096
list_below_from sum [] h = h
list_below_from sum (b ∷ bs) h = list_below_from ((sum * 31 + b) % 4096) bs (omega arith)

pub list_below : (name : List ℕ) → list_of name < 4096
list_below name = list_below_from 0 name (omega arith)

pub indexed_next : (rules : List RuleValue) (by_name new_by : List (List Entry)) (rest new_rest : List Entry) (r s : ℕ) (rule : RuleValue) (selector : List Step) → slice_get rules r ≡ Some rule → slice_get rule.selectors s ≡ Some selector →
    new_by ≡ by_name_with (last_name selector) (of_two r s) by_name → new_rest ≡ rest_with (last_name selector) (of_two r s) rest → IsIndexedTo rules by_name rest r s → IsIndexedTo rules new_by new_rest r (s + 1)
indexed_next rules by_name new_by rest new_rest r s rule selector is_rule is_selector p q was =
    subst (λ z. IsIndexedTo rules z new_rest r (s + 1)) (sym p)
    (subst (λ z. IsIndexedTo rules (by_name_with (last_name selector) (of_two r s) by_name) z r (s + 1)) (sym q)
    (indexed_more rules by_name rest r s (of_two r s) rule selector list_below refl refl is_rule is_selector was))
