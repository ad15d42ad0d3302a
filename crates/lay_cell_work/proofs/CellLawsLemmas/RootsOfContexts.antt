-- The roots of a context have the numbers from its first one on. An anonymous formatting context inside another one is of the same context,
-- and so is the one around it; and it is in flow.
use Rattle.std.proofs.Common.{◌≡◌, ℕ, zero, suc, nat_lt, ◌+◌, ◌<◌, ◌≤◌, ◌&&◌, Bool, true, false, not, List, length, slice_index, refl, ap, sym, subst, ◌∙◌, arith}
use Rattle.lay_cell_work.proofs.Cited.{flow_of, home_root, home_there, is_behind, Numbered, root_anonymous as root_flag, roots_lt, value_of}
use Rattle.lay_box_tree.specs.BoxColumns.{box_at}
use Rattle.lay_box_tree.specs.Containing.{is_anonymous}
use Rattle.lay_box_tree.specs.declared.box_tree.BoxNode.{BoxNode}
use Rattle.lay_box_tree.specs.declared.box_tree.Flow.TheVariants.{InFlow}
use Rattle.lay_contexts.specs.Contexts.{AreContexts, Context, boxes_in}
use Rattle.lay_contexts.specs.FlowLaws.{flow_at}
use Rattle.lay_contexts.specs.FormattingContexts.{FormattingContext, formatting_context_at}
use Rattle.lay_contexts.specs.FormattingContextList.{AreFormattingContextsOf, first_number, homes_in, number_at, number_of, spot_of}
use Rattle.lay_contexts.specs.Homes.{is_root}
use Rattle.lay_contexts.specs.declared.spot.Spot.{Spot}
use Rattle.lay_positioned.specs.Absolute.{is_absolute, is_absolute_flow, is_own_absolute}
use Rattle.lay_cell_work.specs.PresentInputs.{root_count}

-- j is the number of a root of the context c
pub record IsOf (contexts : List Context) (c j : ℕ) : Type 0 where
  pub from : first_number contexts c ≤ j
  pub until : j < first_number contexts c + root_count contexts c

pub number_is_of : (contexts : List Context) (c place : ℕ) → place < length (boxes_in contexts c) → is_root (boxes_in contexts c) place ≡ true → IsOf contexts c (number_of contexts c place)
number_is_of contexts c place lt root =
    let low = roots_lt (boxes_in contexts c) place (length (boxes_in contexts c)) root lt in
    record { from = omega arith; until = omega (arith, low) }

pub spot_inside : (contexts : List Context) (i k : ℕ) → 0 < k → spot_of contexts i k ≡ record { context = i; place = k }
spot_inside contexts i zero some = absurd (omega (arith, some))
spot_inside contexts zero (suc k) some = refl
spot_inside contexts (suc i) (suc k) some = refl

some_place : (place : ℕ) → nat_lt 0 place ≡ true → 0 < place
some_place zero e = absurd cc
some_place (suc k) e = omega arith

-- an anonymous root is anonymous
flag : (anonymous inner kind : Bool) → (anonymous && not inner && kind) ≡ true → anonymous ≡ true
flag true inner kind e = refl
flag false inner kind e = absurd cc

root_anonymous : (boxes : List BoxNode) (k : ℕ) → 0 < k → is_root boxes k ≡ true → is_anonymous boxes k ≡ true
root_anonymous boxes zero some e = absurd (omega (arith, some))
root_anonymous boxes (suc k) some e = root_flag boxes (suc k) e

-- anonymous boxes are in flow
abbrev pub AreCalm : List Context → Type 0
AreCalm contexts = (i k : ℕ) → i < length contexts → is_anonymous (boxes_in contexts i) k ≡ true → flow_at (boxes_in contexts i) k ≡ InFlow

module _ (contexts : List Context) (all : List FormattingContext) (are : AreContexts contexts) (of : AreFormattingContextsOf contexts all) where
  pub own_number : (m : ℕ) (n : Numbered contexts (length contexts) m) → IsOf contexts n.context m
  own_number m n = subst (IsOf contexts n.context) n.number (number_is_of contexts n.context n.place n.inside n.root)

  anonymous_place : (m : ℕ) → m < length all → (n : Numbered contexts (length contexts) m) → (formatting_context_at all m).anonymous ≡ true → 0 < n.place
  anonymous_place m lt n anonymous =
      some_place n.place (sym (ap (λ (f : FormattingContext). f.anonymous) (value_of contexts all are of m lt n)) ∙ anonymous)

  -- inside one, at a box of it
  pub inner_is_of : (m k j : ℕ) → m < length all → (n : Numbered contexts (length contexts) m) → k < length (formatting_context_at all m).inner
      → slice_index (formatting_context_at all m).inner k ≡ j → 0 < j → (formatting_context_at all j).anonymous ≡ true → IsOf contexts n.context j
  inner_is_of m k j lt n within number some anonymous =
      let e = ap (λ (f : FormattingContext). f.inner) (value_of contexts all are of m lt n) in
      let inside = rw e at within in
      let is = rw e at number in
      let b = is_behind contexts of.homes are of.homes_are n.context n.place k j n.before n.inside n.root inside is some in
      let s = b.stands in
      let high = b.within in
      let r : Numbered contexts (length contexts) j = record { context = s.context; place = s.place; before = s.before; inside = s.inside; root = s.root; number = s.number } in
      let place = anonymous_place j (omega (arith, high, of.count)) r anonymous in
      let here : s.context ≡ n.context = ap (λ (t : Spot). t.context) (sym (spot_inside contexts s.context s.place place) ∙ s.spot) in
      subst (λ (c : ℕ). IsOf contexts c j) here (own_number j r)

  -- the one around
  pub outer_is_of : (m : ℕ) → m < length all → (n : Numbered contexts (length contexts) m) → (formatting_context_at all m).anonymous ≡ true → IsOf contexts n.context (formatting_context_at all m).outer
  outer_is_of m lt n anonymous =
      let place = anonymous_place m lt n anonymous in
      let h : ℕ = slice_index (homes_in of.homes n.context) n.place in
      let outer : (formatting_context_at all m).outer ≡ number_of contexts n.context h =
      ap (λ (f : FormattingContext). f.outer) (value_of contexts all are of m lt n) ∙ ap (number_at contexts of.homes) (spot_inside contexts n.context n.place place) in
      subst (IsOf contexts n.context) (sym outer)
      (number_is_of contexts n.context h (home_there contexts of.homes are of.homes_are n.context n.place n.before n.inside) (home_root contexts of.homes are of.homes_are n.context n.place n.before n.inside))

  pub anonymous_some : (m : ℕ) → m < length all → (n : Numbered contexts (length contexts) m) → (formatting_context_at all m).anonymous ≡ true → 0 < m
  anonymous_some m lt n anonymous =
      let first = roots_lt (boxes_in contexts n.context) 0 n.place refl (anonymous_place m lt n anonymous) in
      let number = n.number in
      omega (arith, first, number)

  pub anonymous_flows : AreCalm contexts → (m : ℕ) → m < length all → (n : Numbered contexts (length contexts) m) → (formatting_context_at all m).anonymous ≡ true → is_absolute all m ≡ false
  anonymous_flows calm m lt n anonymous =
      let boxes : List BoxNode = boxes_in contexts n.context in
      let flow = calm n.context n.place n.before (root_anonymous boxes n.place (anonymous_place m lt n anonymous) n.root) in
      let own : is_absolute all m ≡ is_absolute_flow (box_at boxes n.place).flow = ap (λ (f : FormattingContext). is_own_absolute f.boxes) (value_of contexts all are of m lt n) in
      own ∙ ap is_absolute_flow (sym (flow_of boxes n.place) ∙ flow)
