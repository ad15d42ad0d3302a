-- The box of a formatting context in the one around it is an anchor just where its own box is absolutely positioned.
use Rattle.std.proofs.Common.{◌≡◌, ◌↔◌, ℕ, zero, suc, ◌<◌, ◌==◌, ◌&&◌, Bool, true, false, not, List, [], ◌∷◌, length, slice_index, slice_index_or, refl, ap, sym, ◌∙◌, arith, if◌then◌else◌}
use Rattle.std.proofs.lemmas.List.{get_or-map}
use Rattle.lay_style.specs.declared.style_words.Float.{Float}
use Rattle.lay_style.specs.declared.style_words.Float.TheVariants as float
use Rattle.lay_boxgen.specs.Forms.{is_absolute}
use Rattle.lay_box_tree.specs.Roles.{box_roles, float_role, role_at, role_in, role_of, role_of_kind}
use Rattle.lay_box_tree.specs.declared.box_role.Role.{Role}
use Rattle.lay_box_tree.specs.declared.box_role.Role.TheVariants as role
use Rattle.lay_box_tree.specs.declared.box_tree.BoxKind.{BoxKind}
use Rattle.lay_box_tree.specs.declared.box_tree.BoxKind.TheVariants as kind
use Rattle.lay_box_tree.specs.declared.box_tree.BoxNode.{BoxNode}
use Rattle.lay_box_tree.specs.declared.box_tree.Flow.{Flow}
use Rattle.lay_box_tree.specs.declared.box_tree.Flow.TheVariants.{InFlow, Floating, Absolute}
use Rattle.lay_contexts.specs.FlowLaws.{flow_at, is_anchor, is_anchor_at}
use Rattle.lay_box_tree.specs.Containing.{is_anonymous}
use Rattle.lay_contexts.specs.Contexts.{AreContexts, Context, boxes_in}
use Rattle.lay_contexts.specs.Laws.{IsNotedAround, KeepsFlowAround}
use Rattle.lay_contexts.proofs.ContextNumbers.{are_contexts}
use Rattle.lay_contexts.proofs.FlowAround.{anonymous_in_flow, contexts_keep_flow}
use Rattle.lay_contexts.proofs.NotedAround.{contexts_are_noted}
use Rattle.lay_contexts.specs.FormattingBoxes.{as_member, rank}
use Rattle.lay_box_tree.specs.BoxColumns.{box_at, no_box}
use Rattle.lay_contexts.specs.FormattingContexts.{FormattingContext, boxes_in as boxes_of, formatting_context_at}
use Rattle.lay_contexts.specs.FormattingContextList.{AreFormattingContextsOf, homes_in, number_of, spot_of}
use Rattle.lay_contexts.specs.Homes.{box_roots, is_root, is_wrapper_or_cell}
use Rattle.lay_contexts.specs.FormattingLaws.{AnchorsStandForAbsoluteBoxes}
use Rattle.lay_contexts.specs.declared.spot.Spot.{Spot}
use Rattle.lay_contexts.proofs.ContextFacts.{root_of, spot_there, value_of}
use Rattle.lay_contexts.proofs.LeadingBack.{place_some}
use Rattle.lay_contexts.proofs.ListLaws.{at_home}
use Rattle.lay_contexts.proofs.RootBoxes.{rank_some}

-- which role is that of an anchor
abbrev is_anchor_role : Role → Bool
is_anchor_role role.Anchor = true
is_anchor_role _ = false

anchor_role : (r : Role) → is_anchor_role r ≡ true → r ≡ role.Anchor
anchor_role role.Anchor e = refl
anchor_role _ e = absurd cc

absolute_flow : (x : Flow) → is_absolute x ≡ true → x ≡ Absolute
absolute_flow InFlow e = absurd cc
absolute_flow Floating e = absurd cc
absolute_flow Absolute e = refl

role_kind : (inner : Bool) (x : BoxKind) → is_anchor_role (role_of_kind inner x) ≡ is_anchor x
role_kind true kind.Block = refl
role_kind false kind.Block = refl
role_kind inner kind.InlineBlock = refl
role_kind inner kind.Inline = refl
role_kind inner (kind.Text text) = refl
role_kind inner (kind.Replaced w h true) = refl
role_kind inner (kind.Replaced w h false) = refl
role_kind inner kind.Wrapper = refl
role_kind inner kind.InlineWrapper = refl
role_kind inner kind.Table = refl
role_kind inner kind.Caption = refl
role_kind inner kind.RowGroup = refl
role_kind inner kind.HeaderGroup = refl
role_kind inner kind.FooterGroup = refl
role_kind inner kind.Row = refl
role_kind inner (kind.ColumnGroup span) = refl
role_kind inner (kind.Column span) = refl
role_kind inner (kind.Cell colspan rowspan) = refl
role_kind inner kind.Anchor = refl

role_side : (side : Float) (r : Role) → is_anchor_role r ≡ false → is_anchor_role (float_role side r) ≡ false
role_side float.None r e = e
role_side float.Left r e = refl
role_side float.Right r e = refl

role_flow : (x : Flow) (side : Float) (r : Role) → is_anchor_role r ≡ is_absolute x → is_anchor_role (role_in x side r) ≡ is_absolute x
role_flow InFlow side r e = e
role_flow Floating side r e = role_side side r e
role_flow Absolute side r e = e

-- the role of a box that is an anchor just where it is absolute
role_is : (b : BoxNode) → is_anchor b.kind ≡ is_absolute b.flow → is_anchor_role (role_of b) ≡ is_absolute b.flow
role_is b e = role_flow b.flow b.style.float (role_of_kind b.inner b.kind) (role_kind b.inner b.kind ∙ e)

not_own : (k : ℕ) (r : Role) → (if suc k == 0 then role.Own else r) ≡ r
not_own k r = (let e : (suc k == 0) ≡ false = grind arith in rw e refl)

role_there : (boxes : List BoxNode) (k : ℕ) → 0 < k → k < length boxes → role_at boxes k ≡ role_of (box_at boxes k)
role_there boxes zero some lt = absurd (omega (arith, some))
role_there boxes (suc k) some lt = not_own k (slice_index_or (box_roles boxes) (suc k) role.Own) ∙ get_or-map role_of boxes (suc k) no_box role.Own lt

both_ways : (x : Flow) (r : Role) → is_anchor_role r ≡ is_absolute x → (x ≡ Absolute) ↔ (r ≡ role.Anchor)
both_ways x r e = (
  (λ absolute. anchor_role r (e ∙ ap is_absolute absolute)),
  (λ anchor. absolute_flow x (sym e ∙ ap is_anchor_role anchor)),
)

pub flow_of : (boxes : List BoxNode) (k : ℕ) → flow_at boxes k ≡ (box_at boxes k).flow
flow_of [] k = refl
flow_of (b ∷ bs) zero = refl
flow_of (b ∷ bs) (suc k) = flow_of bs k

anchor_of : (boxes : List BoxNode) (k : ℕ) → is_anchor_at boxes k ≡ is_anchor (box_at boxes k).kind
anchor_of [] k = refl
anchor_of (b ∷ bs) zero = refl
anchor_of (b ∷ bs) (suc k) = anchor_of bs k

-- an anonymous root is anonymous, and no anchor
root_kind : (x : BoxKind) → is_wrapper_or_cell x ≡ true → is_anchor x ≡ false
root_kind kind.Anchor e = absurd cc
root_kind _ e = refl

root_by : (anonymous inner : Bool) (x : BoxKind) → (anonymous && not inner && is_wrapper_or_cell x) ≡ true → (anonymous ≡ true) × (is_anchor x ≡ false)
root_by true false x e = (refl, root_kind x e)
root_by true true x e = absurd cc
root_by false inner x e = absurd cc

root_flags : (boxes : List BoxNode) (k : ℕ) → slice_index_or (box_roots boxes) k false ≡ true → (is_anonymous boxes k ≡ true) × (is_anchor_at boxes k ≡ false)
root_flags [] k e = absurd cc
root_flags (b ∷ bs) zero e = root_by b.anonymous b.inner b.kind e
root_flags (b ∷ bs) (suc k) e = root_flags bs k e

module _ (contexts : List Context)
    (keeps : (j : ℕ) → 0 < j → j < length contexts → KeepsFlowAround contexts j)
    (calm : (i k : ℕ) → i < length contexts → is_anonymous (boxes_in contexts i) k ≡ true → flow_at (boxes_in contexts i) k ≡ InFlow) where
  -- the box where that of a root stands has the flow of the root, and is an anchor just where it is absolute
  record Keeps (s : Spot) (i r : ℕ) : Type 0 where
    flow : flow_at (boxes_in contexts s.context) s.place ≡ flow_at (boxes_in contexts i) r
    anchor : is_anchor_at (boxes_in contexts s.context) s.place ≡ is_absolute (flow_at (boxes_in contexts i) r)

  anonymous_keeps : (i r : ℕ) → i < length contexts → is_root (boxes_in contexts i) (suc r) ≡ true → Keeps (record { context = i; place = suc r }) i (suc r)
  anonymous_keeps i r lt root =
      let flags = root_flags (boxes_in contexts i) (suc r) root in
      let flow = calm i (suc r) lt flags.0 in
      record { flow = refl; anchor = flags.1 ∙ ap is_absolute (sym flow) }

  keeps_there : (i r : ℕ) → i < length contexts → is_root (boxes_in contexts i) r ≡ true → 0 < number_of contexts i r → Keeps (spot_of contexts i r) i r
  keeps_there zero zero lt root some = absurd (omega (arith, some))
  keeps_there (suc i) zero lt root some = (let k = keeps (suc i) (omega arith) lt in record { flow = k.flow; anchor = k.anchor })
  keeps_there zero (suc r) lt root some = anonymous_keeps zero r lt root
  keeps_there (suc i) (suc r) lt root some = anonymous_keeps (suc i) r lt root

  module _ (all : List FormattingContext) (are : AreContexts contexts) (of : AreFormattingContextsOf contexts all)
      (noted : (j : ℕ) → 0 < j → j < length contexts → IsNotedAround contexts j) where
    stand : (j : ℕ) → 0 < j → j < length all
        → ((box_at (boxes_of all j) 0).flow ≡ Absolute) ↔ (role_at (boxes_of all (formatting_context_at all j).outer) (formatting_context_at all j).outer_box ≡ role.Anchor)
    stand j some lt =
        let n = root_of contexts all are of j lt in
        let v = value_of contexts all are of j lt n in
        let s : Spot = spot_of contexts n.context n.place in
        let t = spot_there contexts are n.context n.place n.before n.inside in
        let hs : List ℕ = homes_in of.homes s.context in
        let positive : 0 < number_of contexts n.context n.place = omega (arith, some, n.number) in
        let place = place_some contexts are noted n.context n.place n.before positive in
        let k = keeps_there n.context n.place n.before n.root positive in
        let here : List BoxNode = boxes_in contexts s.context in
        let b : BoxNode = as_member here hs s.place in
        let own : (box_at (boxes_of all j) 0).flow ≡ flow_at (boxes_in contexts n.context) n.place =
        ap (λ (f : FormattingContext). (box_at f.boxes 0).flow) v ∙ sym (flow_of (boxes_in contexts n.context) n.place) in
        let flow : b.flow ≡ flow_at (boxes_in contexts n.context) n.place = sym (flow_of here s.place) ∙ k.flow in
        let anchor : is_anchor b.kind ≡ is_absolute b.flow = sym (anchor_of here s.place) ∙ k.anchor ∙ ap is_absolute (sym flow) in
        let home = at_home contexts all of s.context s.place are t.context place t.place in
        let m : ℕ = number_of contexts s.context (slice_index hs s.place) in
        let outer : (formatting_context_at all j).outer ≡ m = ap (λ (f : FormattingContext). f.outer) v in
        let outer_box : (formatting_context_at all j).outer_box ≡ rank hs s.place = ap (λ (f : FormattingContext). f.outer_box) v in
        let around : role_at (boxes_of all (formatting_context_at all j).outer) (formatting_context_at all j).outer_box ≡ role_of b =
        ap (λ (i : ℕ). role_at (boxes_of all i) (formatting_context_at all j).outer_box) outer ∙ ap (role_at (boxes_of all m)) outer_box
        ∙ role_there (boxes_of all m) (rank hs s.place) (rank_some hs s.place place) home.inside ∙ ap role_of home.box in
        both_ways (box_at (boxes_of all j) 0).flow (role_at (boxes_of all (formatting_context_at all j).outer) (formatting_context_at all j).outer_box)
        (ap is_anchor_role around ∙ role_is b anchor ∙ ap is_absolute (flow ∙ sym own))

pub anchors_stand : AnchorsStandForAbsoluteBoxes
anchors_stand d styles contexts all j doc same of of_all some lt =
    stand contexts (λ i positive l. contexts_keep_flow d styles contexts i doc same of positive l) (λ i k l anonymous. anonymous_in_flow d styles contexts i k doc same of l anonymous)
    all (are_contexts d styles contexts doc same of) of_all (λ i positive l. contexts_are_noted d styles contexts i doc same of positive l) j some lt
