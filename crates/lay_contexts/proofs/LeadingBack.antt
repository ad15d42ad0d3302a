-- At its box in the one around it each formatting context but the first has its number.
use Rattle.std.proofs.Common.{◌≡◌, ℕ, zero, suc, ◌<◌, ◌&&◌, Bool, true, false, not, List, [], ◌∷◌, length, slice_index, slice_index_or, refl, ap, sym, ◌∙◌, arith}
use Rattle.std.proofs.lemmas.List.{get_or-map}
use Rattle.lay_box_tree.specs.declared.box_tree.BoxNode.{BoxNode}
use Rattle.lay_box_tree.specs.ContextBoxes.{is_inner}
use Rattle.lay_contexts.specs.Contexts.{AreContexts, Context, boxes_in, context_at}
use Rattle.lay_contexts.specs.Laws.{IsNotedAround}
use Rattle.lay_contexts.proofs.ContextNumbers.{are_contexts}
use Rattle.lay_contexts.proofs.NotedAround.{contexts_are_noted}
use Rattle.lay_contexts.specs.FormattingBoxes.{at_home_before, rank}
use Rattle.lay_contexts.specs.FormattingContexts.{FormattingContext, formatting_context_at}
use Rattle.lay_contexts.specs.FormattingContextList.{AreFormattingContextsOf, first_number, homes_in, inner_number, inner_numbers, number_of, spot_of}
use Rattle.lay_contexts.specs.Homes.{box_roots, is_root, is_wrapper_or_cell}
use Rattle.lay_contexts.specs.FormattingLaws.{InnerNumbersLeadBack}
use Rattle.lay_contexts.specs.declared.spot.Spot.{Spot}
use Rattle.lay_contexts.proofs.AtHome.{is_home, stands_there}
use Rattle.lay_contexts.proofs.ContextFacts.{home_root, home_there, root_of, spot_there, value_of}
use Rattle.lay_contexts.proofs.RootBoxes.{rank_next}

-- the box of an inner context is no root
inner_anonymous : (anonymous inner kind : Bool) → inner ≡ true → (anonymous && not inner && kind) ≡ false
inner_anonymous false inner kind e = refl
inner_anonymous true true kind e = refl
inner_anonymous true false kind e = absurd cc

inner_flag : (boxes : List BoxNode) (k : ℕ) → is_inner boxes k ≡ true → slice_index_or (box_roots boxes) k false ≡ false
inner_flag [] k e = refl
inner_flag (b ∷ bs) zero e = inner_anonymous b.anonymous b.inner (is_wrapper_or_cell b.kind) e
inner_flag (b ∷ bs) (suc k) e = inner_flag bs k e

inner_no_root : (boxes : List BoxNode) (k : ℕ) → 0 < k → is_inner boxes k ≡ true → is_root boxes k ≡ false
inner_no_root boxes zero some e = absurd (omega (arith, some))
inner_no_root boxes (suc k) some e = inner_flag boxes (suc k) e

-- nor the own box
inner_some : (boxes : List BoxNode) (k : ℕ) → is_inner boxes 0 ≡ false → is_inner boxes k ≡ true → 0 < k
inner_some boxes zero own e = absurd (let never : true ≡ false = sym e ∙ own in cc)
inner_some boxes (suc k) own e = omega arith

number_root : (contexts : List Context) (i k : ℕ) → is_root (boxes_in contexts i) k ≡ true → inner_number contexts i k ≡ number_of contexts i k
number_root contexts i k e = rw e refl

number_inner : (contexts : List Context) (i k : ℕ) → is_root (boxes_in contexts i) k ≡ false → inner_number contexts i k ≡ first_number contexts (slice_index (context_at contexts i).inner k)
number_inner contexts i k e = rw e refl

module _ (contexts : List Context) (are : AreContexts contexts) (noted : (j : ℕ) → 0 < j → j < length contexts → IsNotedAround contexts j) where
  -- the box of a formatting context but the first is no own box
  pub place_some : (i r : ℕ) → i < length contexts → 0 < number_of contexts i r → 0 < (spot_of contexts i r).place
  place_some zero zero lt some = absurd (omega (arith, some))
  place_some (suc i) zero lt some =
      let before = are.outer (suc i) (omega arith) lt in
      let own = (are.boxes (context_at contexts (suc i)).outer (omega (arith, before, lt))).own in
      inner_some (boxes_in contexts (context_at contexts (suc i)).outer) (context_at contexts (suc i)).outer_box own (noted (suc i) (omega arith) lt).inner
  place_some zero (suc r) lt some = omega arith
  place_some (suc i) (suc r) lt some = omega arith

  -- its number is the one at its box
  pub number_there : (i r : ℕ) → i < length contexts → is_root (boxes_in contexts i) r ≡ true → 0 < number_of contexts i r → inner_number contexts (spot_of contexts i r).context (spot_of contexts i r).place ≡ number_of contexts i r
  number_there zero zero lt root some = absurd (omega (arith, some))
  number_there (suc i) zero lt root some =
      let o : ℕ = (context_at contexts (suc i)).outer in
      let k : ℕ = (context_at contexts (suc i)).outer_box in
      let is = noted (suc i) (omega arith) lt in
      let other = inner_no_root (boxes_in contexts o) k (place_some (suc i) zero lt some) is.inner in
      let first : first_number contexts (suc i) ≡ number_of contexts (suc i) 0 = omega arith in
      number_inner contexts o k other ∙ ap (first_number contexts) is.number ∙ first
  number_there zero (suc r) lt root some = number_root contexts zero (suc r) root
  number_there (suc i) (suc r) lt root some = number_root contexts (suc i) (suc r) root

-- and stands in the list of its home
number_at_rank : (contexts : List Context) (homes : List (List ℕ)) (i k : ℕ) → k < length (boxes_in contexts i) → 0 < k
    → slice_index (inner_numbers contexts homes i (slice_index (homes_in homes i) k)) (rank (homes_in homes i) k) ≡ inner_number contexts i k
number_at_rank contexts homes i k inside some =
    let hs : List ℕ = homes_in homes i in
    let h : ℕ = slice_index hs k in
    let home = is_home hs h k some refl in
    let s = stands_there hs h (length (boxes_in contexts i)) k inside home in
    ap (slice_index (inner_numbers contexts homes i h)) (rank_next hs h k home)
    ∙ get_or-map (inner_number contexts i) (at_home_before hs h (length (boxes_in contexts i))) (length (at_home_before hs h k)) 0 0 s.inside
    ∙ ap (inner_number contexts i) s.is

module _ (contexts : List Context) (all : List FormattingContext) (are : AreContexts contexts) (of : AreFormattingContextsOf contexts all) (noted : (j : ℕ) → 0 < j → j < length contexts → IsNotedAround contexts j) where
  leads_back : (j : ℕ) → 0 < j → j < length all → slice_index (formatting_context_at all (formatting_context_at all j).outer).inner (formatting_context_at all j).outer_box ≡ j
  leads_back j some lt =
      let n = root_of contexts all are of j lt in
      let v = value_of contexts all are of j lt n in
      let s : Spot = spot_of contexts n.context n.place in
      let t = spot_there contexts are n.context n.place n.before n.inside in
      let hs : List ℕ = homes_in of.homes s.context in
      let h : ℕ = slice_index hs s.place in
      let outer : (formatting_context_at all j).outer ≡ number_of contexts s.context h = ap (λ (f : FormattingContext). f.outer) v in
      let outer_box : (formatting_context_at all j).outer_box ≡ rank hs s.place = ap (λ (f : FormattingContext). f.outer_box) v in
      let there = home_there contexts of.homes are of.homes_are s.context s.place t.context t.place in
      let root = home_root contexts of.homes are of.homes_are s.context s.place t.context t.place in
      let around : (formatting_context_at all (number_of contexts s.context h)).inner ≡ inner_numbers contexts of.homes s.context h = ap (λ (f : FormattingContext). f.inner) (of.each s.context h t.context there root) in
      let positive : 0 < number_of contexts n.context n.place = omega (arith, some, n.number) in
      ap (λ (m : ℕ). slice_index (formatting_context_at all m).inner (formatting_context_at all j).outer_box) outer
      ∙ ap (slice_index (formatting_context_at all (number_of contexts s.context h)).inner) outer_box
      ∙ ap (λ (ns : List ℕ). slice_index ns (rank hs s.place)) around
      ∙ number_at_rank contexts of.homes s.context s.place t.place (place_some contexts are noted n.context n.place n.before positive)
      ∙ number_there contexts are noted n.context n.place n.before n.root positive
      ∙ n.number

pub inner_numbers_back : InnerNumbersLeadBack
inner_numbers_back d styles contexts all j doc same of of_all some lt =
    leads_back contexts all (are_contexts d styles contexts doc same of) of_all (λ i positive l. contexts_are_noted d styles contexts i doc same of positive l) j some lt
