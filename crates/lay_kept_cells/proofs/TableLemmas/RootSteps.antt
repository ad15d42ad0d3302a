-- Which root each formatting context is, with one more.
use Rattle.std.proofs.Common.{◌≡◌, ℕ, zero, suc, nat_lt, ◌+◌, ◌-◌, ◌<◌, ◌≤◌, Bool, true, false, List, [], ◌∷◌, ◌++◌, length, length-append, slice_index, refl, ap, sym, subst, ◌∙◌, arith, inl, inr}
use Rattle.std.proofs.lemmas.Bool.{cases_lt}
use Rattle.std.proofs.lemmas.Grind.{elements}
use Rattle.lay_contexts.specs.Contexts.{AreContexts, Context, boxes_in}
use Rattle.lay_contexts.specs.FormattingContexts.{FormattingContext, formatting_context_at}
use Rattle.lay_contexts.specs.FormattingContextList.{AreFormattingContextsOf, first_number}
use Rattle.lay_kept_cells.proofs.Cited.{first_le, Numbered, root_of, roots_lt, some_box, value_of}
use Rattle.lay_cell_work.specs.PresentInputs.{root_count}
use Rattle.lay_kept_cells.specs.declared.table.context_root.ContextRoot.{ContextRoot}
use Rattle.lay_kept_cells.specs.Table.RootColumns.{AreFirstNumbers, AreRootColumns, AreRootColumnsTo, AreRootsTo, IsRootOf, root_at, with_first}

number_before : (firsts : List ℕ) (n k : ℕ) → k < length firsts → slice_index (firsts ++ n ∷ []) k ≡ slice_index firsts k
number_before firsts n k lt = grind (arith, elements)

number_last : (firsts : List ℕ) (n k : ℕ) → k ≡ length firsts → slice_index (firsts ++ n ∷ []) k ≡ n
number_last firsts n k e = grind (arith, elements)

root_before : (roots : List ContextRoot) (r : ContextRoot) (k : ℕ) → k < length roots → root_at (roots ++ r ∷ []) k ≡ root_at roots k
root_before roots r k lt = grind (arith, elements)

root_last : (roots : List ContextRoot) (r : ContextRoot) (k : ℕ) → k ≡ length roots → root_at (roots ++ r ∷ []) k ≡ r
root_last roots r k e = grind (arith, elements)

-- one more context has begun
pub one_more_first : (contexts : List Context) (firsts : List ℕ) (n : ℕ) → AreFirstNumbers contexts firsts (length firsts) → n ≡ first_number contexts (length firsts)
    → AreFirstNumbers contexts (firsts ++ n ∷ []) (length (firsts ++ n ∷ []))
one_more_first contexts firsts n are is = record {
  count = refl;
  each = λ c lt. elim (cases_lt c (length firsts)) [
    | inl low ↦ number_before firsts n c low ∙ are.each c low
    | inr high ↦ (let counted = length-append firsts (n ∷ []) in
        let here : c ≡ length firsts = omega (arith, lt, high, counted) in
        number_last firsts n c here ∙ is ∙ ap (first_number contexts) (sym here))
  ];
}

some_place : (place : ℕ) → nat_lt 0 place ≡ true → 0 < place
some_place zero e = absurd cc
some_place (suc k) e = omega arith

own_place : (place : ℕ) → nat_lt 0 place ≡ false → place ≡ 0
own_place zero e = refl
own_place (suc k) e = grind (arith, e)

module _ (contexts : List Context) (are : AreContexts contexts) where
  pub root_some : (c : ℕ) → c < length contexts → 0 < root_count contexts c
  root_some c lt =
      let some = some_box contexts are c lt in
      let low = roots_lt (boxes_in contexts c) 0 (length (boxes_in contexts c)) refl some in
      omega (arith, low)

  -- the roots of a context end where those of the next one begin
  next_context : (b c r : ℕ) → b < length contexts → r < root_count contexts b → c ≤ length contexts → suc (first_number contexts b + r) ≡ first_number contexts c → c ≡ suc b
  next_context b c r lt few le is = elim (cases_lt c (suc b)) [
    | inl low ↦ absurd (let a = first_le contexts c b (omega (arith, low)) in omega (arith, a, is))
    | inr high ↦ elim (cases_lt (suc b) c) [
      | inl over ↦ absurd (let some = root_some (suc b) (omega (arith, over, le)) in
          let a = first_le contexts (suc (suc b)) c (omega (arith, over)) in
          omega (arith, some, a, is, few))
      | inr under ↦ omega (arith, high, under)
    ]
  ]

  -- and are of one context each
  pub one_context : (b c i : ℕ) → first_number contexts b ≤ i → i < first_number contexts b + root_count contexts b → first_number contexts c ≤ i → i < first_number contexts c + root_count contexts c → b ≡ c
  one_context b c i from until start end = elim (cases_lt b c) [
    | inl low ↦ absurd (let a = first_le contexts (suc b) c (omega (arith, low)) in omega (arith, a, until, start))
    | inr high ↦ elim (cases_lt c b) [
      | inl over ↦ absurd (let a = first_le contexts (suc c) b (omega (arith, over)) in omega (arith, a, from, end))
      | inr under ↦ omega (arith, high, under)
    ]
  ]

  none_before : (c : ℕ) → c < length contexts → first_number contexts c ≡ 0 → c ≡ 0
  none_before zero lt e = refl
  none_before (suc c) lt e = absurd (let some = root_some 0 (omega (arith, lt)) in let a = first_le contexts 1 (suc c) (omega arith) in omega (arith, some, a, e))

-- the first one of a context is there
pub first_there : (contexts : List Context) (all : List FormattingContext) → AreContexts contexts → AreFormattingContextsOf contexts all → (c : ℕ) → c < length contexts → first_number contexts c < length all
first_there contexts all are of c lt =
    let some = root_some contexts are c lt in
    let a = first_le contexts (suc c) (length contexts) lt in
    let count = of.count in
    omega (arith, some, a, count)

-- the next formatting context is of the last context that has begun, which is c
pub record IsNext (contexts : List Context) (firsts : List ℕ) (i c : ℕ) : Type 0 where
  pub context : c < length contexts
  pub count : length firsts ≡ suc c
  pub firsts_are : AreFirstNumbers contexts firsts (length firsts)
  pub from : first_number contexts c ≤ i
  pub until : i < first_number contexts c + root_count contexts c

module _ (contexts : List Context) (all : List FormattingContext) (are : AreContexts contexts) (of : AreFormattingContextsOf contexts all) where
  module _ (roots : List ContextRoot) (firsts : List ℕ) where
    next_anonymous : (i : ℕ) → AreRootColumnsTo contexts roots firsts i → (n : Numbered contexts (length contexts) i) → 0 < n.place → IsNext contexts firsts i n.context
    next_anonymous zero before n some =
        let low = roots_lt (boxes_in contexts n.context) 0 n.place refl some in
        let number = n.number in
        absurd (omega (arith, low, number))
    next_anonymous (suc j) before n some =
        let c : ℕ = n.context in
        let low = roots_lt (boxes_in contexts c) 0 n.place refl some in
        let high = roots_lt (boxes_in contexts c) n.place (length (boxes_in contexts c)) n.root n.inside in
        let number = n.number in
        let r = before.roots_are.each j (omega arith) in
        let b : ℕ = (root_at roots j).context in
        let there = r.number in
        let few = r.root in
        let same : b ≡ c = one_context contexts are b c j (omega (arith, there)) (omega (arith, there, few)) (omega (arith, number, low)) (omega (arith, number, high)) in
        record {
          context = n.before;
          count = before.last j refl ∙ ap suc same;
          firsts_are = before.firsts_are;
          from = omega (arith, number);
          until = omega (arith, number, high);
        }

    begun : (i : ℕ) → AreRootColumnsTo contexts roots firsts i → (c : ℕ) → c ≤ length contexts → (c < length contexts) → i ≡ first_number contexts c → length firsts ≡ c
    begun zero before c le lt is = before.none refl ∙ sym (none_before contexts are c lt (sym is))
    begun (suc j) before c le lt is =
        let r = before.roots_are.each j (omega arith) in
        let there = r.number in
        before.last j refl ∙ sym (next_context contexts are (root_at roots j).context c (root_at roots j).root r.context r.root le (ap suc there ∙ is))

    next_own : (i : ℕ) → AreRootColumnsTo contexts roots firsts i → (n : Numbered contexts (length contexts) i) → n.place ≡ 0 → IsNext contexts (firsts ++ i ∷ []) i n.context
    next_own i before n own =
        let c : ℕ = n.context in
        let start : i ≡ first_number contexts c = (let e = n.number in let z = rw own at e in omega (arith, z)) in
        let lt = n.before in
        let count = begun i before c (omega (arith, lt)) lt start in
        let counted = length-append firsts (i ∷ []) in
        let some = root_some contexts are c lt in
        record {
          context = lt;
          count = omega (arith, count, counted);
          firsts_are = one_more_first contexts firsts i before.firsts_are (start ∙ ap (first_number contexts) (sym count));
          from = omega (arith, start);
          until = omega (arith, start, some);
        }

    next_by : (b : Bool) (i : ℕ) → AreRootColumnsTo contexts roots firsts i → (n : Numbered contexts (length contexts) i) → nat_lt 0 n.place ≡ b → IsNext contexts (with_first b i firsts) i n.context
    next_by true i before n e = next_anonymous i before n (some_place n.place e)
    next_by false i before n e = next_own i before n (own_place n.place e)

    -- with it its context is known
    pub next_root : (i : ℕ) → AreRootColumnsTo contexts roots firsts i → i < length all → (c : ℕ) × IsNext contexts (with_first (formatting_context_at all i).anonymous i firsts) i c
    next_root i before lt =
        let n = root_of contexts all are of i lt in
        let flag = ap (λ (f : FormattingContext). f.anonymous) (value_of contexts all are of i lt n) in
        (n.context, next_by (formatting_context_at all i).anonymous i before n (sym flag))

    -- all contexts have begun
    pub all_begun : (n : ℕ) → n ≡ length all → AreRootColumnsTo contexts roots firsts n → length firsts ≡ length contexts
    all_begun zero is before = elim (cases_lt 0 (length contexts)) [
      | inl some ↦ absurd (let root = root_some contexts are 0 some in let a = first_le contexts 1 (length contexts) some in let count = of.count in omega (arith, root, a, count, is))
      | inr none ↦ (let z = before.none refl in omega (arith, none, z))
    ]
    all_begun (suc j) is before =
        let r = before.roots_are.each j (omega arith) in
        let there = r.number in
        before.last j refl
        ∙ sym (next_context contexts are (root_at roots j).context (length contexts) (root_at roots j).root r.context r.root (omega arith) (ap suc there ∙ is ∙ of.count))

    pub all_roots : (n : ℕ) → n ≡ length all → AreRootColumnsTo contexts roots firsts n → AreRootColumns contexts all roots (firsts ++ length all ∷ [])
    all_roots n is before =
        let count = all_begun n is before in
        let more = one_more_first contexts firsts (length all) before.firsts_are (of.count ∙ ap (first_number contexts) (sym count)) in
        let counted = length-append firsts (length all ∷ []) in
        record {
          roots_are = subst (AreRootsTo contexts roots) is before.roots_are;
          firsts_are = subst (AreFirstNumbers contexts (firsts ++ length all ∷ [])) (omega (arith, count, counted)) more;
        }

-- the next formatting context noted as a root of that
pub root_noted : (contexts : List Context) (roots : List ContextRoot) (firsts : List ℕ) (i c : ℕ) (r : ContextRoot) → AreRootsTo contexts roots i → IsNext contexts firsts i c
    → r.context ≡ c → r.root ≡ i - first_number contexts c → AreRootColumnsTo contexts (roots ++ r ∷ []) firsts (i + 1)
root_noted contexts roots firsts i c r before next context root =
    let from = next.from in
    let until = next.until in
    let own : IsRootOf contexts r i = record {
      context = rw context next.context;
      root = rw (context, root) (omega (arith, from, until));
      number = rw (context, root) (omega (arith, from));
    } in
    let counted = length-append roots (r ∷ []) in
    let count = before.count in
    record {
      roots_are = record {
        count = omega (arith, counted, count);
        each = λ j lt. elim (cases_lt j i) [
          | inl low ↦ rw (root_before roots r j (omega (arith, low, count))) (before.each j low)
          | inr high ↦ (let here : j ≡ i = omega (arith, lt, high) in rw here (rw (root_last roots r i (sym count)) own))
        ];
      };
      firsts_are = next.firsts_are;
      none = λ e. absurd (omega (arith, e));
      last = λ j e. (let here : j ≡ i = omega (arith, e) in next.count ∙ ap suc (sym context ∙ ap (λ (x : ContextRoot). x.context) (sym (root_last roots r j (here ∙ sym count)))));
    }

module _ (contexts : List Context) (all : List FormattingContext) (are : AreContexts contexts) (of : AreFormattingContextsOf contexts all) (roots : List ContextRoot) (firsts : List ℕ) (i : ℕ)
    (before : AreRootColumnsTo contexts roots firsts i) (lt : i < length all) (made : List ℕ) (is : made ≡ with_first (formatting_context_at all i).anonymous i firsts) where
  pub next_made : (c : ℕ) × IsNext contexts made i c
  next_made = (let n = next_root contexts all are of roots firsts i before lt in (n.0, subst (λ (ns : List ℕ). IsNext contexts ns i n.0) (sym is) n.1))

  pub made_count : 0 < length made
  made_count = (let n = next_made in let count = n.1.count in omega (arith, count))

  pub made_first : (context first : ℕ) → context ≡ length made - 1 → first ≡ slice_index made context → (context ≡ next_made.0) × (first ≡ first_number contexts next_made.0)
  made_first context first e f =
      let n = next_made in
      let count = n.1.count in
      let here : context ≡ n.0 = omega (arith, count, e) in
      (here, f ∙ ap (slice_index made) here ∙ n.1.firsts_are.each n.0 (omega (arith, count)))

  pub made_low : (context first : ℕ) → context ≡ length made - 1 → first ≡ slice_index made context → first ≤ i
  made_low context first e f = (let m = made_first context first e f in let from = next_made.1.from in let first_is = m.1 in omega (arith, from, first_is))

  pub made_noted : (context first : ℕ) → context ≡ length made - 1 → first ≡ slice_index made context → (r : ContextRoot) → r.context ≡ context → r.root ≡ i - first → AreRootColumnsTo contexts (roots ++ r ∷ []) made (i + 1)
  made_noted context first e f r here root =
      let m = made_first context first e f in
      let first_is = m.1 in
      root_noted contexts roots made i next_made.0 r before.roots_are next_made.1 (here ∙ m.0) (omega (arith, root, first_is))
