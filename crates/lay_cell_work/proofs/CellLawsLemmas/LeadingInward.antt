-- What the roots of a context give each other goes one way: anonymous roots stand behind the one around them.
use Rattle.std.proofs.Common.{◌≡◌, ◌<◌, ◌+◌, ◌-◌, ℕ, zero, suc, Bool, true, false, if◌then◌else◌, List, [], length, map, slice_get, Option, None, Some, option_map, refl, ap, sym, ◌∙◌, arith}
use Rattle.std.specs.List.{list_any}
use Rattle.std.proofs.lemmas.List.FromFn.{get_or-map-range_with_len, length-map-range_with_len}
use Rattle.std.proofs.lemmas.Option.{get_or_from_slice_get, slice_get-map, slice_get_within}
use Rattle.lay_contexts.specs.Contexts.{AreContexts, Context}
use Rattle.lay_contexts.specs.FormattingContexts.{FormattingContext, IsInside, formatting_context_at}
use Rattle.lay_contexts.specs.FormattingContextList.{AreFormattingContextsOf, first_number}
use Rattle.lay_cell_work.proofs.Cited.{first_le, in_order, root_of}
use Rattle.lay_context.specs.declared.input.Input.{Input}
use Rattle.lay_context.specs.declared.input.Input.TheVariants as input
use Rattle.lay_context.specs.declared.task.Phase.{Phase}
use Rattle.lay_context.specs.DocumentLayout.{flow_number, flow_numbers}
use Rattle.lay_context.specs.Local.{input_of}
use Rattle.lay_context.specs.Medium.{Medium}
use Rattle.lay_context.specs.Workings.{Workings}
use Rattle.lay_cell_work.specs.declared.root_spot.RootSpot.{RootSpot}
use Rattle.lay_cell_work.specs.CellColumns.{is_link, link_to, links_of}
use Rattle.lay_cell_work.specs.CellInputs.{RootInput}
use Rattle.lay_cell_work.specs.PresentInputs.{asked_links, asked_spot, present_input, root_count, root_input, spot_in}
use Rattle.lay_cell_work.specs.CellLaws.Laws.{PresentInputsLeadInward}
use Rattle.lay_cell_work.proofs.CellLawsLemmas.RootsOfContexts.{anonymous_some}
use Rattle.lay_cell_work.proofs.CellLawsLemmas.WholeInputs.{flow_is, link_is}

-- what is asked for is what is there
asked_there : (given : Input) (links : List (Option ℕ)) (k l : ℕ) → slice_get (asked_links given links) k ≡ Some (Some l) → slice_get links k ≡ Some (Some l)
asked_there (input.Measure i) links k l e = e
asked_there input.Unmeasured links k l e = absurd cc
asked_there (input.Size i) links k l e = absurd cc
asked_there (input.Place i at) links k l e = e
asked_there (input.PlaceTable i at) links k l e = e

pub spot_asked : (given : Input) (around : Option RootSpot) (spot : RootSpot) → asked_spot given around ≡ Some spot → around ≡ Some spot
spot_asked (input.Measure i) around spot e = absurd cc
spot_asked input.Unmeasured around spot e = absurd cc
spot_asked (input.Size i) around spot e = e
spot_asked (input.Place i at) around spot e = absurd cc
spot_asked (input.PlaceTable i at) around spot e = absurd cc

kept_there : (b : Bool) (links : List (Option ℕ)) (k l : ℕ) → slice_get (if b then links else []) k ≡ Some (Some l) → slice_get links k ≡ Some (Some l)
kept_there true links k l e = e
kept_there false links k l e = absurd cc

mapped : {X Y : Type 0} (f : X → Y) (o : Option X) (y : Y) → option_map f o ≡ Some y → (x : X) × (o ≡ Some x) × (f x ≡ y)
mapped f None y e = absurd cc
mapped f (Some x) y e = (x, refl, cc)

pub spot_of_some : (b : Bool) (x spot : RootSpot) → (if b then Some x else None) ≡ Some spot → (b ≡ true) × (spot ≡ x)
spot_of_some true x spot e = (refl, cc)
spot_of_some false x spot e = absurd cc

-- the first root of a context is its own box
own_anonymous_is : (contexts : List Context) (all : List FormattingContext) → AreContexts contexts → (of : AreFormattingContextsOf contexts all) → (c : ℕ) → c < length contexts
    → (formatting_context_at all (first_number contexts c + 0)).anonymous ≡ false
own_anonymous_is contexts all are of c lt = ap (λ (f : FormattingContext). f.anonymous) (of.each c 0 lt (are.boxes c lt).some refl)

module _ (medium : Medium) (contexts : List Context) (all : List FormattingContext) (w : Workings) (c : ℕ) (phase : Phase) (are : AreContexts contexts) (of : AreFormattingContextsOf contexts all) (lt : c < length contexts) where
  abbrev pub First : ℕ
  First = first_number contexts c

  abbrev pub Roots : List RootInput
  Roots = (present_input medium contexts all w c phase).roots

  abbrev pub Root : ℕ → RootInput
  Root r = root_input medium all w First (First + r) phase

  pub within : (r : ℕ) (x : RootInput) → slice_get Roots r ≡ Some x → r < root_count contexts c
  within r x e = (let n = length-map-range_with_len (λ s. Root s) 0 (root_count contexts c) in let l = slice_get_within Roots r x e in omega (arith, n, l))

  pub is_root_input : (r : ℕ) (x : RootInput) → slice_get Roots r ≡ Some x → x ≡ Root r
  is_root_input r x e = sym (get_or_from_slice_get Roots r x (Root 0) e) ∙ get_or-map-range_with_len (λ s. Root s) 0 (root_count contexts c) r r (Root 0) (within r x e) (omega arith)

  pub number_below : (r : ℕ) → r < root_count contexts c → First + r < length all
  number_below r low =
      let up = first_le contexts (suc c) (length contexts) (omega (arith, lt)) in
      let next : first_number contexts (suc c) ≡ First + root_count contexts c = refl in
      omega (arith, low, up, next, of.count)

  links_behind : (r k l : ℕ) (x : RootInput) → slice_get Roots r ≡ Some x → slice_get x.links k ≡ Some (Some l) → r < l
  links_behind r k l x e there =
      let m : ℕ = First + r in
      let below = number_below r (within r x e) in
      let asked : slice_get (Root r).links k ≡ Some (Some l) = ap (λ (y : RootInput). slice_get y.links k) (sym (is_root_input r x e)) ∙ there in
      let kept = asked_there (input_of medium all w (record { context = m; phase = phase })) (links_of all First m) k l asked in
      let linked = kept_there (list_any is_link (map (link_to all First) (flow_numbers all m))) (map (link_to all First) (flow_numbers all m)) k l kept in
      let s = mapped (link_to all First) (slice_get (flow_numbers all m) k) (Some l) (sym (slice_get-map (link_to all First) (flow_numbers all m) k) ∙ linked) in
      let j : ℕ = s.0 in
      let link = link_is all First j l s.2 in
      let f = mapped (flow_number all) (slice_get (formatting_context_at all m).inner k) j (sym (slice_get-map (flow_number all) (formatting_context_at all m).inner k) ∙ s.1) in
      let is : f.0 ≡ j = flow_is all f.0 j f.2 link.some in
      let has : IsInside all m j = record {
        box = k;
        within = slice_get_within (formatting_context_at all m).inner k f.0 f.1;
        number = get_or_from_slice_get (formatting_context_at all m).inner k f.0 0 f.1 ∙ is;
        some = link.some;
      } in
      let behind = (in_order contexts all are of).behind m j below has in
      let ordinal = link.is in
      omega (arith, behind, ordinal)

  later_root : (r : ℕ) → (formatting_context_at all (First + 0)).anonymous ≡ false → (formatting_context_at all (First + r)).anonymous ≡ true → 0 < r
  later_root zero plain anonymous = absurd (let never : false ≡ true = sym plain ∙ anonymous in cc)
  later_root (suc r) plain anonymous = omega arith

  around_before : (r : ℕ) (x : RootInput) (spot : RootSpot) → slice_get Roots r ≡ Some x → x.around ≡ Some spot → spot.root < r
  around_before r x spot e there =
      let m : ℕ = First + r in
      let below = number_below r (within r x e) in
      let f : FormattingContext = formatting_context_at all m in
      let asked : (Root r).around ≡ Some spot = ap (λ (y : RootInput). y.around) (sym (is_root_input r x e)) ∙ there in
      let is = spot_of_some f.anonymous (record { root = f.outer - First; place = f.outer_box }) spot (spot_asked (input_of medium all w (record { context = m; phase = phase })) (spot_in all First m) spot asked) in
      let n = root_of contexts all are of m below in
      let some = anonymous_some contexts all are of m below n is.0 in
      let before = (in_order contexts all are of).outer m some below in
      let root : spot.root ≡ f.outer - First = ap (λ (s : RootSpot). s.root) is.1 in
      let later : 0 < r = later_root r (own_anonymous_is contexts all are of c lt) is.0 in
      omega (arith, before, root, later)

pub present_inputs_lead_inward_lem : PresentInputsLeadInward
present_inputs_lead_inward_lem medium contexts all w c phase are of lt = record {
  links = links_behind medium contexts all w c phase are of lt;
  around = around_before medium contexts all w c phase are of lt;
}
