-- What is said of the boxes around a context, and of the roots in it, is kept where an edit doesn't reach its element.
use Rattle.std.proofs.Common.{◌≡◌, ◌⊎◌, inl, inr, ℕ, zero, suc, ◌<◌, Bool, true, List, length, refl, ap, sym, subst, ◌∙◌, arith, Some, option_map, slice_get, slice_index}
use Rattle.lay_style.specs.declared.style.Style.{Style}
use Rattle.lay_doc.specs.declared.node.Node.{Node}
use Rattle.lay_doc.specs.Document.{Document, ids_of}
use Rattle.lay_doc.specs.Edits.{after}
use Rattle.lay_box_tree.specs.BoxColumns.{box_at as listed_at}
use Rattle.lay_box_tree.specs.declared.box_tree.BoxKind.{BoxKind}
use Rattle.lay_box_tree.specs.declared.box_tree.BoxNode.{BoxNode}
use Rattle.lay_box_tree.specs.declared.box_tree.Flow.{Flow}
use Rattle.lay_boxgen.specs.Contexts.{IsContextAt, is_marked, box_at}
use Rattle.lay_contexts.specs.ContextList.{AreContextsOf}
use Rattle.lay_contexts.specs.Contexts.{AreContexts, Context, boxes_in, context_at}
use Rattle.lay_contexts.specs.DocumentContexts.{spot_at}
use Rattle.lay_contexts.specs.FormattingContextList.{homes_in, number_of}
use Rattle.lay_contexts.specs.FormattingContexts.{FormattingContext, boxes_in as boxes_of, formatting_context_at}
use Rattle.lay_contexts.specs.Homes.{IsHome, is_root}
use Rattle.lay_contexts.specs.declared.context_spot.ContextSpot.{ContextSpot}
use Rattle.lay_contexts.specs.declared.spot.Spot.{Spot}
use Rattle.lay_contexts.proofs.ContextFacts.{home_root, home_there}
use Rattle.lay_contexts.proofs.ContextNumbers.{are_contexts}
use Rattle.lay_contexts.proofs.NearestRoots.{home_before, one_home_lem}
use Rattle.lay_contexts.proofs.OneStand.{marked-true, within}
use Rattle.lay_contexts.proofs.RootNumbers.{roots_lt}
use Rattle.lay_contexts.specs.Edited.Shrinking.{AreListsOf, IsWithin, IsWithinOutward, RootsFollowTheirContext, UnreachedContextsStayOutward, first, outward}
use Rattle.lay_contexts.specs.Edited.Unreached.{content_of}
use Rattle.lay_contexts.proofs.EditedLemmas.EditedContexts.{by-context}
use Rattle.lay_contexts.proofs.EditedLemmas.OwnList.{got}
use Rattle.lay_contexts.proofs.EditedLemmas.RootChains.{Is, cases-of, spot-of-root, within_outward_by_nodes}
use Rattle.lay_contexts.proofs.EditedLemmas.SameTrees.{or-map}

-- The roots of a context, by their homes.
module _ (S : Flow → BoxKind → Style → Bool) (d : Document) (styles : List Style) (contexts : List Context) (all : List FormattingContext) (lists : AreListsOf d styles contexts all) (i : ℕ) (lt : i < length contexts) where
  are : AreContexts contexts
  are = are_contexts d styles contexts lists.document lists.count lists.contexts_are

  abbrev home : ℕ → ℕ
  home k = slice_index (homes_in lists.all_are.homes i) k

  home-is : (k : ℕ) → k < length (boxes_in contexts i) → IsHome (boxes_in contexts i) k (home k)
  home-is k inside = (lists.all_are.homes_are.each i lt).each k inside

  home-in : (k : ℕ) → k < length (boxes_in contexts i) → home k < length (boxes_in contexts i)
  home-in k inside = home_there contexts lists.all_are.homes are lists.all_are.homes_are i k lt inside

  home-roots : (k : ℕ) → k < length (boxes_in contexts i) → is_root (boxes_in contexts i) (home k) ≡ true
  home-roots k inside = home_root contexts lists.all_are.homes are lists.all_are.homes_are i k lt inside

  home-low : (k : ℕ) → 0 < k → k < length (boxes_in contexts i) → home k < k
  home-low k positive inside = home_before (boxes_in contexts i) (are.boxes i lt).tree k (home k) inside (home-is k inside) positive

  own-box : (r : ℕ) → r < length (boxes_in contexts i) → is_root (boxes_in contexts i) r ≡ true → Is S (listed_at (boxes_of all (number_of contexts i r)) 0) ≡ Is S (listed_at (boxes_in contexts i) r)
  own-box r inside root = ap (λ (c : FormattingContext). Is S (listed_at c.boxes 0)) (lists.all_are.each i r lt inside root)

  outer : (r : ℕ) → suc r < length (boxes_in contexts i) → is_root (boxes_in contexts i) (suc r) ≡ true → (formatting_context_at all (number_of contexts i (suc r))).outer ≡ number_of contexts i (home (suc r))
  outer r inside root =
      ap (λ (c : FormattingContext). c.outer) (lists.all_are.each i (suc r) lt inside root)
      ∙ ap (λ (s : Spot). number_of contexts s.context (slice_index (homes_in lists.all_are.homes s.context) s.place)) (spot-of-root contexts i r)

  root-step : (r : ℕ) → suc r < length (boxes_in contexts i) → is_root (boxes_in contexts i) (suc r) ≡ true → IsWithinOutward S all (number_of contexts i (suc r))
      → (Is S (listed_at (boxes_in contexts i) (suc r)) ≡ true) ⊎ IsWithinOutward S all (number_of contexts i (home (suc r)))
  root-step r inside root w = elim (cases-of S all (number_of contexts i (suc r)) w) [
    | inl e ↦ inl (sym (own-box (suc r) inside root) ∙ e)
    | inr out ↦ inr (subst (IsWithinOutward S all) (outer r inside root) out.1)
  ]

  root-back : (r : ℕ) → suc r < length (boxes_in contexts i) → is_root (boxes_in contexts i) (suc r) ≡ true
      → (Is S (listed_at (boxes_in contexts i) (suc r)) ≡ true) ⊎ IsWithinOutward S all (number_of contexts i (home (suc r))) → IsWithinOutward S all (number_of contexts i (suc r))
  root-back r inside root (inl e) = first (number_of contexts i (suc r)) (own-box (suc r) inside root ∙ e)
  root-back r inside root (inr w) =
      outward (number_of contexts i (suc r)) (let n = roots_lt (boxes_in contexts i) 0 (suc r) refl (omega arith) in omega (arith, n)) (subst (IsWithinOutward S all) (sym (outer r inside root)) w)

module _ (S : Flow → BoxKind → Style → Bool) (d e : Document) (styles others : List Style) (contexts later : List Context) (all rest : List FormattingContext)
    (lists : AreListsOf d styles contexts all) (later_lists : AreListsOf e others later rest) (i j : ℕ) (lt : i < length contexts) (later_lt : j < length later) (same : boxes_in contexts i ≡ boxes_in later j)
    (own : IsWithinOutward S all (number_of contexts i 0) → IsWithinOutward S rest (number_of later j 0)) where
  abbrev h : ℕ → ℕ
  h k = home S d styles contexts all lists i lt k

  abbrev g : ℕ → ℕ
  g k = home S e others later rest later_lists j later_lt k

  in-later : (k : ℕ) → k < length (boxes_in contexts i) → k < length (boxes_in later j)
  in-later k inside = subst (λ (bs : List BoxNode). k < length bs) same inside

  root-later : (k : ℕ) → is_root (boxes_in contexts i) k ≡ true → is_root (boxes_in later j) k ≡ true
  root-later k root = subst (λ (bs : List BoxNode). is_root bs k ≡ true) same root

  same-home : (k : ℕ) → k < length (boxes_in contexts i) → h k ≡ g k
  same-home k inside =
      one_home_lem (boxes_in later j) k (h k) (g k)
      (subst (λ (bs : List BoxNode). IsHome bs k (h k)) same (home-is S d styles contexts all lists i lt k inside))
      (home-is S e others later rest later_lists j later_lt k (in-later k inside))

  follow : (turns r : ℕ) → r < turns → r < length (boxes_in contexts i) → is_root (boxes_in contexts i) r ≡ true → IsWithinOutward S all (number_of contexts i r) → IsWithinOutward S rest (number_of later j r)
  follow zero r few inside root w = absurd (omega (arith, few))
  follow (suc turns) zero few inside root w = own w
  follow (suc turns) (suc r) few inside root w =
      root-back S e others later rest later_lists j later_lt r (in-later (suc r) inside) (root-later (suc r) root)
      (elim (root-step S d styles contexts all lists i lt r inside root w) [
        | inl is ↦ inl (ap (λ (bs : List BoxNode). Is S (listed_at bs (suc r))) (sym same) ∙ is)
        | inr out ↦ (let low = home-low S d styles contexts all lists i lt (suc r) (omega arith) inside in
            inr (subst (λ (k : ℕ). IsWithinOutward S rest (number_of later j k)) (same-home (suc r) inside)
            (follow turns (h (suc r)) (omega (arith, low, few)) (home-in S d styles contexts all lists i lt (suc r) inside) (home-roots S d styles contexts all lists i lt (suc r) inside) out)))
      ])

pub roots_follow_their_context : RootsFollowTheirContext
roots_follow_their_context S d e styles others contexts later all rest lists later_lists i j lt later_lt same own r inside root w =
    follow S d e styles others contexts later all rest lists later_lists i j lt later_lt same own (suc r) r (omega arith) inside root w

-- An edit.
same-content : (ns ms : List Node) (k m : ℕ) → k < length ns → m < length ms → option_map content_of (slice_get ns k) ≡ option_map content_of (slice_get ms m) → slice_index (ids_of ms) m ≡ slice_index (ids_of ns) k
same-content ns ms k m lt less e =
    let n = got ns k lt in
    let o = got ms m less in
    let both : Some (content_of n.0) ≡ Some (content_of o.0) = sym (ap (option_map content_of) n.1) ∙ (e ∙ ap (option_map content_of) o.1) in
    let alike : content_of n.0 ≡ content_of o.0 = cc in
    or-map (λ x. x.id.0) ms m o.0 0 o.1 ∙ (ap (λ x. x.id.0) (sym alike) ∙ sym (or-map (λ x. x.id.0) ns k n.0 0 n.1))

pub place-there : (d : Document) (styles : List Style) (contexts : List Context) (of : AreContextsOf d.nodes styles contexts) (i : ℕ) → i < length contexts → (context_at contexts i).place ≡ (spot_at of.spots i).place
place-there d styles contexts of i lt = ap (λ (s : ContextSpot). s.place) (of.numbered.each i lt).spot

pub unreached_contexts_stay_outward : UnreachedContextsStayOutward
unreached_contexts_stay_outward S d edit styles others contexts later all rest takes edits lists later_lists i lt apart =
    let p : ℕ = (context_at contexts i).place in
    let of = lists.contexts_are in
    let of_later = later_lists.contexts_are in
    let context : IsContextAt d.nodes styles p = subst (IsContextAt d.nodes styles) (sym (place-there d styles contexts of i lt)) (of.are.are i (omega (arith, lt, of.numbered.count))) in
    let p_in = within d.nodes styles p (marked-true (is_marked (box_at d.nodes styles p)) context.establishes) in
    let c = by-context d edit styles others edits S p p_in apart context in
    let found = of_later.are.all c.0 c.2 in
    let j : ℕ = found.0 in
    let j_in : j < length later = (let l = found.1 in omega (arith, l, of_later.numbered.count)) in
    let at : (context_at later j).place ≡ c.0 = place-there (after d edit) others later of_later j j_in ∙ found.2 in
    let mine = within_outward_by_nodes S d styles contexts all takes lists i lt in
    let theirs = within_outward_by_nodes S (after d edit) others later rest takes later_lists j j_in in (
      j,
      record {
        within = j_in;
        node = ap (slice_index (ids_of (after d edit).nodes)) at ∙ same-content d.nodes (after d edit).nodes p c.0 p_in c.1.there c.1.content;
        same = (
          λ w. theirs.1 (subst (IsWithin S (after d edit).nodes others) (sym at) (c.3.0 (mine.0 w))),
          λ w. mine.1 (c.3.1 (subst (IsWithin S (after d edit).nodes others) at (theirs.0 w))),
        );
      },
    )
