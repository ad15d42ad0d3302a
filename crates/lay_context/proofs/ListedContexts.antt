-- How many contexts a tree lists: of the formatting contexts of each context the first one. So a layout has no more contexts than its
-- document has nodes.
use Rattle.std.proofs.Common.{◌≡◌, ◌⊎◌, inl, inr, ⊎_elim, ℕ, zero, suc, ◌+◌, ◌-◌, ◌≤◌, ◌<◌, Bool, cond, true, false, List, [], ◌∷◌, ◌++◌, length, refl, rules, arith, ap, sym, subst, ◌∙◌, length-append}
use Rattle.std.specs.Prelude.{nat_lt}
use Rattle.std.proofs.lemmas.Bool.{false≢true, lt-ltb, cases_Bool}
use Rattle.lay_frag.specs.Pieces.{Context as PageContext}
use Rattle.lay_placements.specs.declared.corner.Corner.{Corner}
use Rattle.lay_box_tree.specs.declared.box_tree.BoxNode.{BoxNode}
use Rattle.lay_contexts.specs.Contexts.{AreContexts, Context, boxes_in}
use Rattle.lay_contexts.specs.FormattingContexts.{FormattingContext, formatting_context_at}
use Rattle.lay_contexts.specs.FormattingContextList.{AreFormattingContextsOf, first_number, formatting_context_of, number_of, roots_before}
use Rattle.lay_contexts.specs.Homes.{is_root}
use Rattle.lay_context.specs.Laws.{LayoutsAreShort}
use Rattle.lay_context.specs.Solves.{listed_unless_anonymous, page_context, page_contexts}
use Rattle.lay_context.specs.Workings.{Workings}
use Rattle.lay_context.proofs.Cited.{few_contexts}

-- one context, once the first box is passed
abbrev one_from : ℕ → ℕ
one_from zero = 0
one_from (suc k) = 1

sum_one : (k : ℕ) → one_from k + (1 - one_from k) ≡ 1
sum_one zero = refl
sum_one (suc k) = refl

some_from : (k : ℕ) → 0 < k → one_from k ≡ 1
some_from zero lt = absurd (omega (arith, lt))
some_from (suc k) lt = refl

module _ (contexts : List Context) (all : List FormattingContext) (are : AreFormattingContextsOf contexts all) (w : Workings) (corners : List Corner) where
  one_more : (n : ℕ) (b : Bool) → (formatting_context_at all n).anonymous ≡ b
      → length (page_contexts all w corners (n + 1)) ≡ length (page_contexts all w corners n) + length (listed_unless_anonymous b (page_context all w corners n))
  one_more n b is =
      subst (λ (m : ℕ). length (page_contexts all w corners m) ≡ length (page_contexts all w corners n) + length (listed_unless_anonymous b (page_context all w corners n)))
      (next n)
      (length-append (page_contexts all w corners n) (listed_unless_anonymous (formatting_context_at all n).anonymous (page_context all w corners n))
      ∙ ap (λ (x : Bool). length (page_contexts all w corners n) + length (listed_unless_anonymous x (page_context all w corners n))) is)
    where
      next : (m : ℕ) → suc m ≡ m + 1
      next m = omega arith

  -- the context i adds one in all
  module _ (i : ℕ) (within : i < length contexts) where
    at_root : (k : ℕ) → k < length (boxes_in contexts i) → is_root (boxes_in contexts i) k ≡ true
        → (formatting_context_at all (number_of contexts i k)).anonymous ≡ nat_lt 0 k
    at_root k below root = ap (λ (c : FormattingContext). c.anonymous) (are.each i k within below root)

    adds : (k : ℕ) → k < length (boxes_in contexts i) → is_root (boxes_in contexts i) k ≡ true
        → length (page_contexts all w corners (number_of contexts i k + 1)) ≡ length (page_contexts all w corners (number_of contexts i k)) + (1 - one_from k)
    adds zero below root = one_more (number_of contexts i 0) false (at_root 0 below root)
    adds (suc k) below root = one_more (number_of contexts i (suc k)) true (at_root (suc k) below root ∙ lt-ltb 0 (suc k) (omega arith))

    inner_one : (k : ℕ) → is_root (boxes_in contexts i) k ≡ false → one_from k ≡ 1
    inner_one zero other = absurd (false≢true (sym other))
    inner_one (suc k) other = refl

    before : (k : ℕ) → k ≤ length (boxes_in contexts i)
        → length (page_contexts all w corners (number_of contexts i k)) ≡ length (page_contexts all w corners (first_number contexts i)) + one_from k
    before zero le =
        let none : number_of contexts i 0 ≡ first_number contexts i = omega arith in
        let e = ap (λ n. length (page_contexts all w corners n)) none in
        omega (arith, e)
    before (suc k) le = by (before k (omega (arith, le))) (cases_Bool (is_root (boxes_in contexts i) k))
      where
        by : length (page_contexts all w corners (number_of contexts i k)) ≡ length (page_contexts all w corners (first_number contexts i)) + one_from k
            → (is_root (boxes_in contexts i) k ≡ true) ⊎ (is_root (boxes_in contexts i) k ≡ false)
            → length (page_contexts all w corners (number_of contexts i (suc k))) ≡ length (page_contexts all w corners (first_number contexts i)) + 1
        by same (inl root) =
            let number : number_of contexts i (suc k) ≡ number_of contexts i k + 1 =
            ap (λ (b : Bool). first_number contexts i + cond b (roots_before (boxes_in contexts i) k + 1) (roots_before (boxes_in contexts i) k)) root
            ∙ (omega arith) in
            let e = ap (λ n. length (page_contexts all w corners n)) number in
            omega (arith, e, adds k le root, same, sum_one k)
        by same (inr other) =
            let number : number_of contexts i (suc k) ≡ number_of contexts i k =
            ap (λ (b : Bool). first_number contexts i + cond b (roots_before (boxes_in contexts i) k + 1) (roots_before (boxes_in contexts i) k)) other in
            let e = ap (λ n. length (page_contexts all w corners n)) number in
            omega (arith, e, same, inner_one k other)

  pub listed_to : (i : ℕ) → i ≤ length contexts → AreContexts contexts → length (page_contexts all w corners (first_number contexts i)) ≡ i
  listed_to zero le contexts_are = refl
  listed_to (suc i) le contexts_are =
      let rest = listed_to i (omega (arith, le)) contexts_are in
      let here = before i le (length (boxes_in contexts i)) (omega arith) in
      let some = some_from (length (boxes_in contexts i)) (contexts_are.boxes i le).some in
      omega (arith, rest, here, some)

  at_most_one : (k : ℕ) → one_from k ≤ 1
  at_most_one zero = omega arith
  at_most_one (suc k) = omega arith

  -- of contexts of which nothing else is known it lists no more
  pub few_listed_to : (i : ℕ) → i ≤ length contexts → length (page_contexts all w corners (first_number contexts i)) ≤ i
  few_listed_to zero le = omega arith
  few_listed_to (suc i) le =
      let rest = few_listed_to i (omega (arith, le)) in
      let here = before i le (length (boxes_in contexts i)) (omega arith) in
      let one = at_most_one (length (boxes_in contexts i)) in
      omega (arith, rest, here, one)

pub layouts_are_short_lem : LayoutsAreShort
layouts_are_short_lem d face tree solves =
    let assembled = solves.solves_contexts.assembled in
    let listed : length tree ≡ length (page_contexts solves.formatting_contexts solves.solves_contexts.workings assembled.corners (first_number solves.contexts (length solves.contexts))) =
    ap length assembled.tree_is
    ∙ ap (λ n. length (page_contexts solves.formatting_contexts solves.solves_contexts.workings assembled.corners n)) solves.are_formatting_contexts.count in
    let short = few_listed_to solves.contexts solves.formatting_contexts solves.are_formatting_contexts solves.solves_contexts.workings assembled.corners
    (length solves.contexts) (omega arith) in
    let few = few_contexts d.nodes solves.styles solves.are_contexts.spots solves.are_contexts.are in
    omega (arith, listed, short, few, solves.are_contexts.numbered.count)
