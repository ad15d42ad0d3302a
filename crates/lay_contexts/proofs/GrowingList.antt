-- The list of formatting contexts while it grows.
use Rattle.std.proofs.Common.{◌≡◌, ℕ, ◌+◌, ◌<◌, true, false, List, [], ◌∷◌, ◌++◌, add-one, length, length-append, ap, sym, subst, ◌∙◌, arith, inl, inr}
use Rattle.std.proofs.lemmas.Bool.{cases_lt}
use Rattle.std.proofs.lemmas.Grind.{elements}
use Rattle.lay_contexts.specs.Contexts.{Context, boxes_in}
use Rattle.lay_contexts.specs.FormattingContexts.{FormattingContext, formatting_context_at}
use Rattle.lay_contexts.specs.FormattingContextList.{AreFormattingContextsOf, AreHomesOf, first_number, formatting_context_of, number_of, roots_before}
use Rattle.lay_contexts.specs.Homes.{is_root}
use Rattle.lay_contexts.specs.Listed.{AreListedTo, IsRootListed}
use Rattle.lay_contexts.proofs.RootNumbers.{number_lt, roots_lt, roots_no, roots_yes}

kept : (all : List FormattingContext) (c : FormattingContext) (m : ℕ) → m < length all → formatting_context_at (all ++ c ∷ []) m ≡ formatting_context_at all m
kept all c m lt = grind (arith, elements)

added : (all : List FormattingContext) (c : FormattingContext) (m : ℕ) → m ≡ length all → formatting_context_at (all ++ c ∷ []) m ≡ c
added all c m e = grind (arith, elements)

module _ (contexts : List Context) (homes : List (List ℕ)) where
  pub none_listed : AreListedTo contexts homes [] 0 0
  none_listed = record {
    count = omega arith;
    before = λ j r less lt root. absurd (omega (arith, less));
    here = λ r less root. absurd (omega (arith, less));
  }

  pub one_listed : (all : List FormattingContext) (c : FormattingContext) (i n : ℕ) → AreListedTo contexts homes all i n → n < length (boxes_in contexts i) → is_root (boxes_in contexts i) n ≡ true
      → c ≡ formatting_context_of contexts homes i n → AreListedTo contexts homes (all ++ c ∷ []) i (n + 1)
  one_listed all c i n so_far within root is = record {
    count = (let a = length-append all (c ∷ []) in
        let y = roots_yes (boxes_in contexts i) n root in
        let q = ap (roots_before (boxes_in contexts i)) (add-one n) in
        omega (arith, a, y, q, so_far.count));
    before = λ j r less lt at. (let low = number_lt contexts j i r less lt at in
        kept all c (number_of contexts j r) (omega (arith, low, so_far.count)) ∙ so_far.before j r less lt at);
    here = λ r less at. elim (cases_lt r n) [
      | inl low ↦ (let a = roots_lt (boxes_in contexts i) r n at low in kept all c (number_of contexts i r) (omega (arith, a, so_far.count)) ∙ so_far.here r low at)
      | inr high ↦ (let q : n ≡ r = omega (arith, less, high) in subst (IsRootListed contexts homes (all ++ c ∷ []) i) q (added all c (number_of contexts i n) (sym so_far.count) ∙ is))
    ];
  }

  pub one_passed : (all : List FormattingContext) (i n : ℕ) → AreListedTo contexts homes all i n → is_root (boxes_in contexts i) n ≡ false → AreListedTo contexts homes all i (n + 1)
  one_passed all i n so_far none = record {
    count = (let y = roots_no (boxes_in contexts i) n none in
        let q = ap (roots_before (boxes_in contexts i)) (add-one n) in
        omega (arith, y, q, so_far.count));
    before = so_far.before;
    here = λ r less at. elim (cases_lt r n) [
      | inl low ↦ so_far.here r low at
      | inr high ↦ absurd (let q : r ≡ n = omega (arith, less, high) in let yes : is_root (boxes_in contexts i) n ≡ true = rw (← q) at in let no : true ≡ false = sym yes ∙ none in cc)
    ];
  }

  -- with all roots of a context those of the next one begin
  pub next_listed : (all : List FormattingContext) (i n : ℕ) → n ≡ length (boxes_in contexts i) → AreListedTo contexts homes all i n → AreListedTo contexts homes all (i + 1) 0
  next_listed all i n e so_far = record {
    count = (let q = ap (first_number contexts) (add-one i) in
        let r = ap (roots_before (boxes_in contexts i)) e in
        omega (arith, q, r, so_far.count));
    before = λ j r less lt at. elim (cases_lt j i) [
      | inl low ↦ so_far.before j r low lt at
      | inr high ↦ (let q : j ≡ i = omega (arith, less, high) in
          let there : r < n = subst (λ (k : ℕ). r < k) (sym e) (subst (λ (k : ℕ). r < length (boxes_in contexts k)) q lt) in
          let root : is_root (boxes_in contexts i) r ≡ true = subst (λ (k : ℕ). is_root (boxes_in contexts k) r ≡ true) q at in
          subst (λ (k : ℕ). IsRootListed contexts homes all k r) (sym q) (so_far.here r there root))
    ];
    here = λ r less root. absurd (omega (arith, less));
  }

  pub all_listed : (all : List FormattingContext) (n : ℕ) → n ≡ length contexts → AreHomesOf contexts homes → AreListedTo contexts homes all n 0 → AreFormattingContextsOf contexts all
  all_listed all n e found so_far = record {
    homes = homes;
    homes_are = found;
    count = (let q = ap (first_number contexts) e in omega (arith, q, so_far.count));
    each = λ i r lt inside root. so_far.before i r (omega (arith, lt, e)) inside root;
  }
