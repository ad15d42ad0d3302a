-- What a root is given by what stands among its boxes, without numbers of formatting contexts: by the boxes of its context, and by what the
-- cells of the contexts inside keep.
use Rattle.std.proofs.Common.{◌≡◌, ◌<◌, ◌-◌, ℕ, zero, suc, nat_lt, Bool, true, false, if◌then◌else◌, List, ◌∷◌, length, map, slice_index, Option, None, Some, refl, ap, sym, ◌∙◌, arith}
use Rattle.lay_boxgen.specs.Forms as forms
use Rattle.lay_box_tree.specs.BoxColumns.{box_at}
use Rattle.lay_box_tree.specs.declared.box_tree.BoxNode.{BoxNode}
use Rattle.lay_box_tree.specs.declared.box_tree.Flow.{Flow}
use Rattle.lay_box_tree.specs.declared.box_tree.Flow.TheVariants.{InFlow, Floating, Absolute}
use Rattle.lay_contexts.specs.Contexts.{AreContexts, Context, IsInside as IsInsideContext, boxes_in, context_at}
use Rattle.lay_contexts.specs.FlowLaws.{flow_at, is_anchor_at}
use Rattle.lay_contexts.specs.FormattingBoxes.{at_home_before, boxes_of_root}
use Rattle.lay_contexts.specs.FormattingContexts.{FormattingContext, boxes_in as boxes_of, formatting_context_at}
use Rattle.lay_contexts.specs.FormattingContextList.{AreFormattingContextsOf, first_number, formatting_context_of, homes_in, inner_number, number_of, roots_before}
use Rattle.lay_contexts.specs.Homes.{is_root}
use Rattle.lay_contexts.specs.Laws.{KeepsFlowAround}
use Rattle.lay_cell_work.proofs.Cited.{flow_of, home_is, number_lt, Numbered, place_there, roots_lt}
use Rattle.lay_positioned.specs.Absolute.{is_absolute, is_absolute_flow, is_own_absolute}
use Rattle.lay_context.specs.DocumentLayout.{flow_number, flow_numbers}
use Rattle.lay_cell_work.specs.CellColumns.{link_to, links_of, links_or_none, masked}
use Rattle.lay_cell_work.proofs.CellLawsLemmas.MaskedColumns.{column_is, entry, masked_is, masked_value}
use Rattle.lay_cell_work.proofs.CellLawsLemmas.RootsOfContexts.{AreCalm, anonymous_flows}

-- which root of its context the box at k is
abbrev pub link_at : List BoxNode → ℕ → Option ℕ
link_at boxes k = if is_root boxes k then Some (roots_before boxes k) else None

-- what the cell of the context inside with this number gives, where 0 stands for none
abbrev pub cell_or : {X : Type 0} → X → (ℕ → X) → ℕ → X
cell_or nothing cell zero = nothing
cell_or nothing cell (suc p) = cell (suc p)

-- what the box at k is given from outside the cell: neither by another root, nor by what an anchor stands for
abbrev pub given_at : {X : Type 0} → X → (ℕ → X) → List BoxNode → (inner : List ℕ) → ℕ → X
given_at nothing cell boxes inner k =
    if is_root boxes k then nothing else (if is_anchor_at boxes k then nothing else cell_or nothing cell (slice_index inner k))

-- the places of the boxes at home in a root
abbrev pub members : List BoxNode → List ℕ → ℕ → List ℕ
members boxes homes r = at_home_before homes r (length boxes)

pub positive : (k : ℕ) → 0 < k → nat_lt 0 k ≡ true
positive k some = grind (arith, some)

same_absolute : (f : Flow) → is_absolute_flow f ≡ forms.is_absolute f
same_absolute InFlow = refl
same_absolute Floating = refl
same_absolute Absolute = refl

number_by_flow : (b : Bool) (j : ℕ) → b ≡ false → (if b then 0 else j) ≡ j
number_by_flow b j e = rw e refl

no_number_by_flow : (b : Bool) (j : ℕ) → b ≡ true → (if b then 0 else j) ≡ 0
no_number_by_flow b j e = rw e refl

zero_by_flow : (b : Bool) (n : ℕ) → n ≡ 0 → (if b then 0 else n) ≡ n
zero_by_flow true n e = sym e
zero_by_flow false n e = refl

pub chosen : {X : Type 0} (b : Bool) (x y : X) → b ≡ true → (if b then x else y) ≡ x
chosen b x y e = rw e refl

pub other : {X : Type 0} (b : Bool) (x y : X) → b ≡ false → (if b then x else y) ≡ y
other b x y e = rw e refl

both_nothing : {X : Type 0} (b : Bool) (x : X) → (if b then x else x) ≡ x
both_nothing true x = refl
both_nothing false x = refl

link_some : (all : List FormattingContext) (first j : ℕ) → 0 < j → (formatting_context_at all j).anonymous ≡ true → link_to all first j ≡ Some (j - first)
link_some all first zero some anonymous = absurd (omega (arith, some))
link_some all first (suc j) some anonymous = chosen (formatting_context_at all (suc j)).anonymous (Some (suc j - first)) None anonymous

link_none : (all : List FormattingContext) (first j : ℕ) → (formatting_context_at all j).anonymous ≡ false → link_to all first j ≡ None
link_none all first zero anonymous = refl
link_none all first (suc j) anonymous = other (formatting_context_at all (suc j)).anonymous (Some (suc j - first)) None anonymous

module _ (contexts : List Context) (all : List FormattingContext) (are : AreContexts contexts) (of : AreFormattingContextsOf contexts all) (calm : AreCalm contexts)
    (keeps : (j : ℕ) → 0 < j → j < length contexts → KeepsFlowAround contexts j) where
  -- the formatting context of a root
  pub root_is : (c r : ℕ) → c < length contexts → r < length (boxes_in contexts c) → is_root (boxes_in contexts c) r ≡ true
      → formatting_context_at all (number_of contexts c r) ≡ formatting_context_of contexts of.homes c r
  root_is c r lt inside root = of.each c r lt inside root

  pub boxes_are : (c r : ℕ) → c < length contexts → r < length (boxes_in contexts c) → is_root (boxes_in contexts c) r ≡ true
      → boxes_of all (number_of contexts c r) ≡ boxes_of_root (boxes_in contexts c) (homes_in of.homes c) r
  boxes_are c r lt inside root = ap (λ (f : FormattingContext). f.boxes) (root_is c r lt inside root)

  pub number_within : (c r : ℕ) → c < length contexts → r < length (boxes_in contexts c) → is_root (boxes_in contexts c) r ≡ true → number_of contexts c r < length all
  number_within c r lt inside root = (let n = number_lt contexts c (length contexts) r lt inside root in omega (arith, n, of.count))

  -- an inner context's own one
  pub own_some : (p : ℕ) → 0 < p → p < length contexts → 0 < first_number contexts p
  own_some p some lt =
      let first = number_lt contexts 0 p 0 some (are.boxes 0 (omega (arith, some, lt))).some refl in
      omega (arith, first)

  pub own_is : (p : ℕ) → p < length contexts → formatting_context_at all (first_number contexts p) ≡ formatting_context_of contexts of.homes p 0
  own_is p lt =
      let e : first_number contexts p ≡ number_of contexts p 0 = omega arith in
      ap (formatting_context_at all) e ∙ root_is p 0 lt (are.boxes p lt).some refl

  pub own_anonymous : (p : ℕ) → p < length contexts → (formatting_context_at all (first_number contexts p)).anonymous ≡ false
  own_anonymous p lt = ap (λ (f : FormattingContext). f.anonymous) (own_is p lt)

  pub own_absolute : (p : ℕ) → p < length contexts → is_absolute all (first_number contexts p) ≡ forms.is_absolute (flow_at (boxes_in contexts p) 0)
  own_absolute p lt =
      ap (λ (f : FormattingContext). is_own_absolute f.boxes) (own_is p lt)
      ∙ same_absolute (box_at (boxes_in contexts p) 0).flow ∙ ap forms.is_absolute (sym (flow_of (boxes_in contexts p) 0))

  -- it is absolutely positioned just where its box is an anchor
  inner_absolute : (c k p : ℕ) → c < length contexts → k < length (boxes_in contexts c) → slice_index (context_at contexts c).inner k ≡ p → 0 < p
      → (p < length contexts) × (is_absolute all (first_number contexts p) ≡ is_anchor_at (boxes_in contexts c) k)
  inner_absolute c k p lt inside is some =
      let has : IsInsideContext contexts c p = record { box = k; within = (let n = are.count c lt in omega (arith, n, inside)); number = is; some = some } in
      let within = are.within c p lt has in
      let around = are.around c p lt has in
      let at = are.at c p lt has in
      let anchor = (keeps p some within).anchor in
      (within, own_absolute p within ∙ sym anchor ∙ ap (λ (o : ℕ). is_anchor_at (boxes_in contexts o) (context_at contexts p).outer_box) around ∙ ap (is_anchor_at (boxes_in contexts c)) at)

  number_root : (c k : ℕ) → is_root (boxes_in contexts c) k ≡ true → inner_number contexts c k ≡ number_of contexts c k
  number_root c k e = chosen (is_root (boxes_in contexts c) k) (number_of contexts c k) (first_number contexts (slice_index (context_at contexts c).inner k)) e

  number_other : (c k : ℕ) → is_root (boxes_in contexts c) k ≡ false → inner_number contexts c k ≡ first_number contexts (slice_index (context_at contexts c).inner k)
  number_other c k e = other (is_root (boxes_in contexts c) k) (number_of contexts c k) (first_number contexts (slice_index (context_at contexts c).inner k)) e

  -- an anonymous root inside a context
  record IsLinkedRoot (c k : ℕ) : Type 0 where
    number : flow_number all (inner_number contexts c k) ≡ number_of contexts c k
    some : 0 < number_of contexts c k
    anonymous : (formatting_context_at all (number_of contexts c k)).anonymous ≡ true

  linked_root : (c k : ℕ) → c < length contexts → 0 < k → k < length (boxes_in contexts c) → is_root (boxes_in contexts c) k ≡ true → IsLinkedRoot c k
  linked_root c k lt some inside root =
      let j : ℕ = number_of contexts c k in
      let within = number_within c k lt inside root in
      let n : Numbered contexts (length contexts) j = record { context = c; place = k; before = lt; inside = inside; root = root; number = refl } in
      let anonymous : (formatting_context_at all j).anonymous ≡ true = ap (λ (f : FormattingContext). f.anonymous) (root_is c k lt inside root) ∙ positive k some in
      let low = roots_lt (boxes_in contexts c) 0 k refl some in
      record {
        number = ap (flow_number all) (number_root c k root) ∙ number_by_flow (is_absolute all j) j (anonymous_flows contexts all are of calm j within n anonymous);
        some = omega (arith, low);
        anonymous = anonymous;
      }

  module _ {X : Type 0} (nothing : X) (value cell : ℕ → X) (none : value 0 ≡ nothing) (gives : (p : ℕ) → 0 < p → p < length contexts → value (first_number contexts p) ≡ cell p) (c : ℕ) (lt : c < length contexts) where
    abbrev First : ℕ
    First = first_number contexts c

    abbrev B : List BoxNode
    B = boxes_in contexts c

    abbrev Inner : List ℕ
    Inner = (context_at contexts c).inner

    abbrev Entry : ℕ → X
    Entry j = entry nothing (link_to all First) value j

    -- the link and the masked value at a box
    record IsForm (k : ℕ) : Type 0 where
      link : link_to all First (flow_number all (inner_number contexts c k)) ≡ link_at B k
      given : Entry (flow_number all (inner_number contexts c k)) ≡ given_at nothing cell B Inner k

    entry_by : (j : ℕ) (l : Option ℕ) → link_to all First j ≡ l → Entry j ≡ masked_value nothing l (value j)
    entry_by j l e = ap (λ (m : Option ℕ). masked_value nothing m (value j)) e

    at_root : (k : ℕ) → 0 < k → k < length B → is_root B k ≡ true → IsForm k
    at_root k some inside root =
        let r = linked_root c k lt some inside root in
        let j : ℕ = number_of contexts c k in
        let ordinal : j - First ≡ roots_before B k = omega arith in
        let link : link_to all First j ≡ Some (roots_before B k) = link_some all First j r.some r.anonymous ∙ ap Some ordinal in
        record {
          link = ap (link_to all First) r.number ∙ link ∙ sym (chosen (is_root B k) (Some (roots_before B k)) None root);
          given = ap (λ (i : ℕ). Entry i) r.number ∙ entry_by j (Some (roots_before B k)) link
              ∙ sym (chosen (is_root B k) nothing (if is_anchor_at B k then nothing else cell_or nothing cell (slice_index Inner k)) root);
        }

    -- nothing is given for the number 0
    at_nothing : (k : ℕ) → is_root B k ≡ false → flow_number all (inner_number contexts c k) ≡ 0 → (if is_anchor_at B k then nothing else cell_or nothing cell (slice_index Inner k)) ≡ nothing → IsForm k
    at_nothing k plain zeroed form = record {
      link = ap (link_to all First) zeroed ∙ sym (other (is_root B k) (Some (roots_before B k)) None plain);
      given = ap (λ (i : ℕ). Entry i) zeroed ∙ none ∙ sym form ∙ sym (other (is_root B k) nothing (if is_anchor_at B k then nothing else cell_or nothing cell (slice_index Inner k)) plain);
    }

    at_inner : (k p : ℕ) (b : Bool) → k < length B → is_root B k ≡ false → slice_index Inner k ≡ p → 0 < p → is_anchor_at B k ≡ b → IsForm k
    at_inner k p true inside plain is some anchor =
        let a = inner_absolute c k p lt inside is some in
        at_nothing k plain
        (ap (flow_number all) (number_other c k plain ∙ ap (first_number contexts) is) ∙ no_number_by_flow (is_absolute all (first_number contexts p)) (first_number contexts p) (a.1 ∙ anchor))
        (chosen (is_anchor_at B k) nothing (cell_or nothing cell (slice_index Inner k)) anchor)
    at_inner k p false inside plain is some anchor =
        let a = inner_absolute c k p lt inside is some in
        let j : ℕ = first_number contexts p in
        let number : flow_number all (inner_number contexts c k) ≡ j =
        ap (flow_number all) (number_other c k plain ∙ ap (first_number contexts) is) ∙ number_by_flow (is_absolute all j) j (a.1 ∙ anchor) in
        let link : link_to all First j ≡ None = link_none all First j (own_anonymous p a.0) in
        record {
          link = ap (link_to all First) number ∙ link ∙ sym (other (is_root B k) (Some (roots_before B k)) None plain);
          given = ap (λ (i : ℕ). Entry i) number ∙ entry_by j None link ∙ gives p some a.0 ∙ sym (cell_some p some) ∙ ap (cell_or nothing cell) (sym is)
              ∙ sym (other (is_anchor_at B k) nothing (cell_or nothing cell (slice_index Inner k)) anchor)
              ∙ sym (other (is_root B k) nothing (if is_anchor_at B k then nothing else cell_or nothing cell (slice_index Inner k)) plain);
        }
      where
        cell_some : (p : ℕ) → 0 < p → cell_or nothing cell p ≡ cell p
        cell_some zero some = absurd (omega (arith, some))
        cell_some (suc p) some = refl

    at_other : (k p : ℕ) → k < length B → is_root B k ≡ false → slice_index Inner k ≡ p → IsForm k
    at_other k zero inside plain is =
        at_nothing k plain (ap (flow_number all) (number_other c k plain ∙ ap (first_number contexts) is) ∙ zero_by_flow (is_absolute all 0) 0 refl)
        (ap (λ (p : ℕ). if is_anchor_at B k then nothing else cell_or nothing cell p) is ∙ both_nothing (is_anchor_at B k) nothing)
    at_other k (suc p) inside plain is = at_inner k (suc p) (is_anchor_at B k) inside plain is (omega arith) refl

    form_by : (k : ℕ) (b : Bool) → 0 < k → k < length B → is_root B k ≡ b → IsForm k
    form_by k true some inside e = at_root k some inside e
    form_by k false some inside e = at_other k (slice_index Inner k) inside e refl

    module _ (r : ℕ) (inside : r < length B) (root : is_root B r ≡ true) where
      abbrev M : ℕ
      M = number_of contexts c r

      abbrev Members : List ℕ
      Members = members B (homes_in of.homes c) r

      form : (a : ℕ) → a < length Members → IsForm (slice_index Members a)
      form a within =
          let s = place_there (homes_in of.homes c) r (length B) a within in
          let h = home_is (homes_in of.homes c) r (slice_index Members a) s.home in
          form_by (slice_index Members a) (is_root B (slice_index Members a)) h.0 s.before refl

      numbers_are : flow_numbers all M ≡ flow_number all 0 ∷ map (flow_number all) (map (inner_number contexts c) Members)
      numbers_are = ap (λ (f : FormattingContext). map (flow_number all) f.inner) (root_is c r lt inside root)

      -- the links of a root
      pub links_are : links_of all First M ≡ links_or_none (None ∷ map (link_at B) Members)
      links_are =
          let first : link_to all First (flow_number all 0) ≡ None = ap (link_to all First) (zero_by_flow (is_absolute all 0) 0 refl) in
          let rest : map (link_to all First) (map (flow_number all) (map (inner_number contexts c) Members)) ≡ map (link_at B) Members =
          column_is (link_to all First) (flow_number all) (inner_number contexts c) (link_at B) Members (λ a within. (form a within).link) in
          ap (λ (ns : List ℕ). links_or_none (map (link_to all First) ns)) numbers_are
          ∙ ap (λ (l : Option ℕ). links_or_none (l ∷ map (link_to all First) (map (flow_number all) (map (inner_number contexts c) Members)))) first
          ∙ ap (λ (ls : List (Option ℕ)). links_or_none (None ∷ ls)) rest

      -- the column of what it is given from outside
      pub masked_are : masked nothing (links_of all First M) (map value (flow_numbers all M)) ≡ nothing ∷ map (given_at nothing cell B Inner) Members
      masked_are =
          let first : Entry (flow_number all 0) ≡ nothing = ap (λ (i : ℕ). Entry i) (zero_by_flow (is_absolute all 0) 0 refl) ∙ none in
          let rest : map Entry (map (flow_number all) (map (inner_number contexts c) Members)) ≡ map (given_at nothing cell B Inner) Members =
          column_is (λ i. Entry i) (flow_number all) (inner_number contexts c) (given_at nothing cell B Inner) Members (λ a within. (form a within).given) in
          masked_is nothing (link_to all First) value (flow_numbers all M)
          ∙ ap (λ (ns : List ℕ). map Entry ns) numbers_are
          ∙ ap (λ (x : X). x ∷ map Entry (map (flow_number all) (map (inner_number contexts c) Members))) first
          ∙ ap (λ (xs : List X). nothing ∷ xs) rest
