-- Which roots of a context are anonymous, and that a context without such ones links none of its boxes.
use Rattle.std.proofs.Common.{◌≡◌, ℕ, zero, suc, nat_lt, ◌+◌, ◌<◌, Bool, true, false, List, [], ◌∷◌, length, map, slice_index, Option, None, refl, ap, ◌∙◌, arith, inl, inr}
use Rattle.std.specs.List.{list_any}
use Rattle.std.proofs.lemmas.Bool.{cases_lt, false_from_ne_true}
use Rattle.lay_contexts.specs.Contexts.{AreContexts, Context}
use Rattle.lay_contexts.specs.FormattingContexts.{FormattingContext, IsInside, formatting_context_at}
use Rattle.lay_contexts.specs.FormattingContextList.{AreFormattingContextsOf, first_number}
use Rattle.lay_kept_cells.proofs.Cited.{first_le, in_order, inner_is_of, Numbered, own_number, root_of, some_box, value_of}
use Rattle.lay_context.specs.DocumentLayout.{flow_number, flow_numbers}
use Rattle.lay_positioned.specs.Absolute.{is_absolute}
use Rattle.lay_cell_work.specs.CellColumns.{is_link, link_to, links_of}
use Rattle.lay_cell_work.specs.PresentInputs.{root_count}
use Rattle.lay_kept_cells.proofs.TableLemmas.RootSteps.{first_there, one_context}

flag_some : (place : ℕ) → 0 < place → nat_lt 0 place ≡ true
flag_some place some = grind (arith, some)

none_linked : (link : ℕ → Option ℕ) (f : ℕ → ℕ) (numbers : List ℕ) → ((k : ℕ) → k < length numbers → link (f (slice_index numbers k)) ≡ None) → list_any is_link (map link (map f numbers)) ≡ false
none_linked link f [] none = refl
none_linked link f (j ∷ numbers) none =
    let here : link (f j) ≡ None = none 0 (omega arith) in
    rw here (none_linked link f numbers (λ k lt. none (suc k) (omega (arith, lt))))

no_link : (all : List FormattingContext) (first j : ℕ) → (0 < j → (formatting_context_at all j).anonymous ≡ false) → link_to all first j ≡ None
no_link all first zero own = refl
no_link all first (suc j) own = rw (own (omega arith)) refl

no_flow_link : (all : List FormattingContext) (first j : ℕ) → (0 < j → (formatting_context_at all j).anonymous ≡ false) → link_to all first (flow_number all j) ≡ None
no_flow_link all first j own = by (is_absolute all j) refl
  where
    by : (b : Bool) → is_absolute all j ≡ b → link_to all first (flow_number all j) ≡ None
    by true e = rw e refl
    by false e = rw e (no_link all first j own)

module _ (contexts : List Context) (all : List FormattingContext) (are : AreContexts contexts) (of : AreFormattingContextsOf contexts all) (c : ℕ) (lt : c < length contexts) where
  abbrev First : ℕ
  First = first_number contexts c

  -- its own box as the first root
  abbrev own_root : Numbered contexts (length contexts) First
  own_root = record { context = c; place = 0; before = lt; inside = some_box contexts are c lt; root = refl; number = omega arith }

  pub own_flag : (formatting_context_at all First).anonymous ≡ false
  own_flag = ap (λ (f : FormattingContext). f.anonymous) (value_of contexts all are of First (first_there contexts all are of c lt) own_root)

  pub root_within : (r : ℕ) → r < root_count contexts c → First + r < length all
  root_within r few = (let a = first_le contexts (suc c) (length contexts) lt in let count = of.count in omega (arith, a, count, few))

  place_some : (r : ℕ) → 0 < r → (n : Numbered contexts (length contexts) (First + r)) → n.context ≡ c → 0 < n.place
  place_some r some n same = elim (cases_lt 0 n.place) [
    | inl low ↦ low
    | inr high ↦ (let z : n.place ≡ 0 = omega (arith, high) in
        let number = rw (same, z) at n.number in
        absurd (omega (arith, number, some)))
  ]

  pub inner_flag : (r : ℕ) → r < root_count contexts c → 0 < r → (formatting_context_at all (First + r)).anonymous ≡ true
  inner_flag r few some =
      let within = root_within r few in
      let n = root_of contexts all are of (First + r) within in
      let is = own_number contexts all are of (First + r) n in
      let from = is.from in
      let until = is.until in
      let same : n.context ≡ c = one_context contexts are n.context c (First + r) from until (omega arith) (omega (arith, few)) in
      ap (λ (f : FormattingContext). f.anonymous) (value_of contexts all are of (First + r) within n) ∙ flag_some n.place (place_some r some n same)

  -- what is inside its own box is of another context, where that is its only root
  inner_own : root_count contexts c ≡ 1 → (k : ℕ) → k < length (formatting_context_at all First).inner → 0 < slice_index (formatting_context_at all First).inner k
      → (formatting_context_at all (slice_index (formatting_context_at all First).inner k)).anonymous ≡ false
  inner_own only k within some =
      let j : ℕ = slice_index (formatting_context_at all First).inner k in
      let there = first_there contexts all are of c lt in
      let inside : IsInside all First j = record { box = k; within = within; number = refl; some = some } in
      let behind = (in_order contexts all are of).behind First j there inside in
      false_from_ne_true (formatting_context_at all j).anonymous
      (λ yes. (let is = inner_is_of contexts all are of First k j there own_root within refl some yes in
      let until = is.until in
      omega (arith, behind, until, only)))

  pub no_links : root_count contexts c ≡ 1 → links_of all First First ≡ []
  no_links only =
      let none : list_any is_link (map (link_to all First) (flow_numbers all First)) ≡ false =
      none_linked (link_to all First) (flow_number all) (formatting_context_at all First).inner (λ k within. no_flow_link all First _ (inner_own only k within)) in
      rw none refl
