-- The contexts of a document, with the numbers of those inside each.
use Rattle.std.proofs.Common.{◌≡◌, ◌≢◌, ◌<◌, ◌==◌, ◌&&◌, ℕ, zero, suc, ◌+◌, Bool, true, false, List, [], ◌∷◌, ◌++◌, add-one, length, slice_index, slice_set, replicate, refl, ap, sym, ◌∙◌, arith, inl, inr, if◌then◌else◌}
use Rattle.std.proofs.lemmas.Bool.{cases_eq, cases_lt}
use Rattle.std.proofs.lemmas.Grind.{elements}
use Rattle.std.proofs.lemmas.List.{ext_get_or}
use Rattle.lay_style.specs.declared.style.Style.{Style}
use Rattle.lay_doc.specs.Document.{Document, IsDocument}
use Rattle.lay_box_tree.specs.declared.box_tree.BoxNode.{BoxNode}
use Rattle.lay_contexts.specs.declared.context_spot.ContextSpot.{ContextSpot}
use Rattle.lay_contexts.specs.Contexts.{Context, AreContexts, IsInside, context_at, no_context}
use Rattle.lay_contexts.specs.DocumentContexts.{spot_at}
use Rattle.lay_contexts.proofs.OneList.{one_list_of_contexts}
use Rattle.lay_contexts.specs.ContextList.{AreContextsOf, AreNumberedTo, IsNumberedTo, boxes_at, boxes_of_spots, number_before, spot_of}
use Rattle.lay_contexts.specs.Laws.{OneContextList}
use Rattle.lay_contexts.specs.ContextOrder.{AreInOrder}
use Rattle.lay_contexts.proofs.SpotOrder.{are_in_order}

-- a context with a number other than 0 stands there
record StandsIn (spots : List ContextSpot) (n outer box j : ℕ) : Type 0 where
  before : j < n
  around : (spot_at spots j).around ≡ outer
  at : (spot_at spots j).at ≡ box

number_by : (spots : List ContextSpot) (n outer box j : ℕ) (b : Bool) → ((spot_at spots n).around == outer && (spot_at spots n).at == box) ≡ b
    → (number_before spots n outer box ≡ j → 0 < j → StandsIn spots n outer box j)
    → (if b then n else number_before spots n outer box) ≡ j → 0 < j → StandsIn spots (suc n) outer box j
number_by spots n outer box j true test below is some = record { before = omega (arith, is); around = rw (sym is) (grind (arith, test)); at = rw (sym is) (grind (arith, test)) }
number_by spots n outer box j false test below is some = let there = below is some in record { before = omega (arith, there.before); around = there.around; at = there.at }

number_is : (spots : List ContextSpot) (n outer box j : ℕ) → number_before spots n outer box ≡ j → 0 < j → StandsIn spots n outer box j
number_is spots zero outer box j is some = absurd (omega (arith, is, some))
number_is spots (suc n) outer box j is some = number_by spots n outer box j ((spot_at spots n).around == outer && (spot_at spots n).at == box) refl (number_is spots n outer box j) is some

pub numbered_contexts : (spots : List ContextSpot) (boxes : List (List BoxNode)) (contexts : List Context) → AreInOrder spots boxes → AreNumberedTo spots boxes contexts (length spots) → AreContexts contexts
numbered_contexts spots boxes contexts order are =
    let inside : (i j : ℕ) → i < length contexts → (has : IsInside contexts i j) → StandsIn spots (length spots) i has.box j =
    λ i j lt has. (let here = are.each i lt in
    number_is spots (length spots) i has.box j (sym (here.inner has.box (omega (arith, has.within, here.count))) ∙ has.number) has.some) in
    record {
      boxes = λ i lt. (let e = (are.each i lt).boxes_are in rw e (order.each i (omega (arith, lt, are.count, order.count))));
      outer = λ i some lt. (let e = ap (λ (s : ContextSpot). s.around) (are.each i lt).spot in rw e (order.around i some (omega (arith, lt, are.count))));
      outer_box = λ i some lt. (let here = are.each i lt in
          let before = order.around i some (omega (arith, lt, are.count)) in
          let e = (are.each (spot_at spots i).around (omega (arith, before, lt))).boxes_are in
          let outer = ap (λ (s : ContextSpot). s.around) here.spot in
          let outer_box = ap (λ (s : ContextSpot). s.at) here.spot in
          rw (outer, outer_box, e) (order.within i some (omega (arith, lt, are.count))));
      count = λ i lt. (are.each i lt).count;
      behind = λ i j lt has. (let there = inside i j lt has in
          let before = order.around j has.some there.before in omega (arith, before, there.around));
      within = λ i j lt has. (let there = inside i j lt has in omega (arith, there.before, are.count));
      around = λ i j lt has. (let there = inside i j lt has in
          ap (λ (s : ContextSpot). s.around) (are.each j (omega (arith, there.before, are.count))).spot ∙ there.around);
      at = λ i j lt has. (let there = inside i j lt has in
          ap (λ (s : ContextSpot). s.at) (are.each j (omega (arith, there.before, are.count))).spot ∙ there.at);
    }

pub are_contexts : (d : Document) (styles : List Style) (contexts : List Context) → IsDocument d → length styles ≡ length d.nodes → AreContextsOf d.nodes styles contexts → AreContexts contexts
are_contexts d styles contexts doc same of =
    numbered_contexts of.spots (boxes_of_spots d.nodes styles of.spots) contexts (are_in_order d styles doc same of.spots of.are) of.numbered

abbrev context_with : (place outer outer_box : ℕ) → List BoxNode → List ℕ → Context
context_with place outer outer_box boxes inner = record { place = place; outer = outer; outer_box = outer_box; boxes = boxes; inner = inner }

one_context : (spots : List ContextSpot) (boxes : List (List BoxNode)) (n i : ℕ) (x y : Context) → IsNumberedTo spots boxes x n i → IsNumberedTo spots boxes y n i → x ≡ y
one_context spots boxes n i x y a b =
    let spot = a.spot ∙ sym b.spot in
    let place : x.place ≡ y.place = ap (λ (s : ContextSpot). s.place) spot in
    let outer : x.outer ≡ y.outer = ap (λ (s : ContextSpot). s.around) spot in
    let outer_box : x.outer_box ≡ y.outer_box = ap (λ (s : ContextSpot). s.at) spot in
    let boxes_are = a.boxes_are ∙ sym b.boxes_are in
    let counted : length x.boxes ≡ length y.boxes = ap length boxes_are in
    let inner : x.inner ≡ y.inner = ext_get_or 0 x.inner y.inner (a.count ∙ counted ∙ sym b.count) (λ k lt. a.inner k (omega (arith, a.count)) ∙ sym (b.inner k (omega (arith, a.count, counted)))) in
    let e : context_with x.place x.outer x.outer_box x.boxes x.inner ≡ context_with y.place y.outer y.outer_box y.boxes y.inner = rw (place, outer, outer_box, boxes_are, inner) refl in
    e

numbered_once : (spots : List ContextSpot) (boxes : List (List BoxNode)) (x y : List Context) → AreNumberedTo spots boxes x (length spots) → AreNumberedTo spots boxes y (length spots) → x ≡ y
numbered_once spots boxes x y a b =
    ext_get_or no_context x y (a.count ∙ sym b.count) (λ i lt. one_context spots boxes (length spots) i (context_at x i) (context_at y i) (a.each i lt) (b.each i (omega (arith, a.count, b.count))))

pub one_context_list_lem : OneContextList
one_context_list_lem d styles x y doc same a b =
    let spots = one_list_of_contexts d styles a.spots b.spots doc same a.are b.are in
    let numbered : AreNumberedTo a.spots (boxes_of_spots d.nodes styles a.spots) y (length a.spots) = rw spots b.numbered in
    numbered_once a.spots (boxes_of_spots d.nodes styles a.spots) x y a.numbered numbered

-- a list that grows by contexts without numbers
pub record AreBlankTo (spots : List ContextSpot) (boxes : List (List BoxNode)) (contexts : List Context) (n : ℕ) : Type 0 where
  pub count : length contexts ≡ n
  pub each : (i : ℕ) → i < n → IsNumberedTo spots boxes (context_at contexts i) 0 i

pub blank_before : (cs : List Context) (c : Context) (k : ℕ) → k < length cs → context_at (cs ++ c ∷ []) k ≡ context_at cs k
blank_before cs c k lt = grind (arith, elements)

pub blank_last : (cs : List Context) (c : Context) (k : ℕ) → k ≡ length cs → context_at (cs ++ c ∷ []) k ≡ c
blank_last cs c k e = grind (arith, elements)

-- a context in which no number stands
pub blank : (spots : List ContextSpot) (boxes : List (List BoxNode)) (i : ℕ) (c : Context) → spot_of c ≡ spot_at spots i → c.boxes ≡ boxes_at boxes i → c.inner ≡ replicate (length c.boxes) 0 → IsNumberedTo spots boxes c 0 i
blank spots boxes i c spot are inner = record {
  spot = spot;
  boxes_are = are;
  count = ap length inner ∙ length-replicate (length c.boxes) 0;
  inner = λ k lt. rw inner (zero_at (length c.boxes) k lt);
}
  where
    length-replicate : (n : ℕ) (z : ℕ) → length (replicate n z) ≡ n
    length-replicate zero z = refl
    length-replicate (suc n) z = ap suc (length-replicate n z)

    zero_at : (n k : ℕ) → k < n → slice_index (replicate n 0) k ≡ 0
    zero_at zero k lt = absurd (omega (arith, lt))
    zero_at (suc n) zero lt = refl
    zero_at (suc n) (suc k) lt = zero_at n k (omega (arith, lt))

pub one_blank : (spots : List ContextSpot) (boxes : List (List BoxNode)) (cs : List Context) (c : Context) (n : ℕ) → AreBlankTo spots boxes cs n → IsNumberedTo spots boxes c 0 n → AreBlankTo spots boxes (cs ++ c ∷ []) (n + 1)
one_blank spots boxes cs c n so_far is = record {
  count = grind (arith, elements, so_far.count);
  each = λ i lt. elim (cases_lt i n) [
    | inl low ↦ (let e = blank_before cs c i (omega (arith, so_far.count)) in rw e (so_far.each i low))
    | inr high ↦ (let q : i ≡ n = omega (arith, high, lt) in let e = blank_last cs c n (sym so_far.count) in rw (q, e) is)
  ];
}

context_same : (xs : List Context) (i j : ℕ) (x : Context) → i ≢ j → context_at (slice_set xs i x) j ≡ context_at xs j
context_same xs i j x other = grind (arith, elements, other)

context_here : (xs : List Context) (i : ℕ) (x : Context) → i < length xs → context_at (slice_set xs i x) i ≡ x
context_here xs i x lt = grind (arith, elements, lt)

contexts_length : (xs : List Context) (i : ℕ) (x : Context) → length (slice_set xs i x) ≡ length xs
contexts_length xs i x = grind (arith, elements)

inner_same : (xs : List ℕ) (at k j : ℕ) → at ≢ k → slice_index (slice_set xs at j) k ≡ slice_index xs k
inner_same xs at k j other = grind (arith, elements, other)

inner_here : (xs : List ℕ) (at j : ℕ) → at < length xs → slice_index (slice_set xs at j) at ≡ j
inner_here xs at j lt = grind (arith, elements, lt)

inner_length : (xs : List ℕ) (at j : ℕ) → length (slice_set xs at j) ≡ length xs
inner_length xs at j = grind (arith, elements)

pub both : (a b x y : ℕ) → a ≡ x → b ≡ y → (a == x && b == y) ≡ true
both a b x y e f = grind (arith, e, f)

pub not_first : (a b x y : ℕ) → a ≢ x → (a == x && b == y) ≡ false
not_first a b x y n = grind (arith, n)

pub not_second : (a b x y : ℕ) → b ≢ y → (a == x && b == y) ≡ false
not_second a b x y n = grind (arith, n)

-- the number of one more context, where it isn't that of this box
pub number_passed : (spots : List ContextSpot) (j i k : ℕ) → ((spot_at spots j).around == i && (spot_at spots j).at == k) ≡ false → number_before spots (suc j) i k ≡ number_before spots j i k
number_passed spots j i k other = rw other refl

pub number_found : (spots : List ContextSpot) (j i k : ℕ) → ((spot_at spots j).around == i && (spot_at spots j).at == k) ≡ true → number_before spots (suc j) i k ≡ j
number_found spots j i k same = rw same refl

module _ (spots : List ContextSpot) (boxes : List (List BoxNode)) (j : ℕ) where
  -- a context that isn't around the one with the number j
  passed : (i : ℕ) (c : Context) → (spot_at spots j).around ≢ i → IsNumberedTo spots boxes c j i → IsNumberedTo spots boxes c (j + 1) i
  passed i c other is = record {
    spot = is.spot;
    boxes_are = is.boxes_are;
    count = is.count;
    inner = λ k lt. is.inner k lt ∙ sym (rw (add-one j) (number_passed spots j i k (not_first (spot_at spots j).around (spot_at spots j).at i k other)));
  }

  -- and the one that is
  noted : (i : ℕ) (c : Context) → (spot_at spots j).around ≡ i → (spot_at spots j).at < length c.boxes → IsNumberedTo spots boxes c j i → IsNumberedTo spots boxes (record c { inner = slice_set c.inner (spot_at spots j).at j }) (j + 1) i
  noted i c around within is = record {
    spot = is.spot;
    boxes_are = is.boxes_are;
    count = inner_length c.inner (spot_at spots j).at j ∙ is.count;
    inner = λ k lt. elim (cases_eq (spot_at spots j).at k) [
      | inl same ↦ (let e = number_found spots j i k (both (spot_at spots j).around (spot_at spots j).at i k around same) in
          rw (add-one j, e, ← same) (inner_here c.inner (spot_at spots j).at j (omega (arith, within, is.count))))
      | inr other ↦ (let e = number_passed spots j i k (not_second (spot_at spots j).around (spot_at spots j).at i k other) in
          rw (add-one j, e) (inner_same c.inner (spot_at spots j).at k j other ∙ is.inner k lt))
    ];
  }

  pub one_number : (cs : List Context) (c : Context) → AreInOrder spots boxes → 0 < j → j < length spots → AreNumberedTo spots boxes cs j
      → c ≡ (let old : Context = context_at cs (spot_at spots j).around in record old { inner = slice_set old.inner (spot_at spots j).at j })
      → AreNumberedTo spots boxes (slice_set cs (spot_at spots j).around c) (j + 1)
  one_number cs c order some lt so_far is =
      let a : ℕ = (spot_at spots j).around in
      let before = order.around j some lt in
      let there : a < length cs = omega (arith, before, lt, so_far.count) in
      let old = so_far.each a there in
      let within : (spot_at spots j).at < length (context_at cs a).boxes = rw old.boxes_are (order.within j some lt) in
      record {
        count = contexts_length cs a c ∙ so_far.count;
        each = λ i low. elim (cases_eq a i) [
          | inl same ↦ (let e = context_here cs a c there in rw (← same, e, is) (noted a (context_at cs a) refl within old))
          | inr other ↦ (let e = context_same cs a i c other in rw e (passed i (context_at cs i) other (so_far.each i (omega (arith, low, contexts_length cs a c)))))
        ];
      }

-- the root's context stands in none
pub from_one : (spots : List ContextSpot) (boxes : List (List BoxNode)) (cs : List Context) (n : ℕ) → n ≡ length spots → AreBlankTo spots boxes cs n → AreNumberedTo spots boxes cs 1
from_one spots boxes cs n e blank = record {
  count = blank.count ∙ e;
  each = λ i lt. (let is = blank.each i (omega (arith, lt, blank.count)) in record {
    spot = is.spot;
    boxes_are = is.boxes_are;
    count = is.count;
    inner = λ k low. is.inner k low ∙ sym (either ((spot_at spots 0).around == i && (spot_at spots 0).at == k) 0);
  });
}
  where
    either : (b : Bool) (z : ℕ) → (if b then z else z) ≡ z
    either true z = refl
    either false z = refl

-- when all are noted
pub all_numbered : (spots : List ContextSpot) (boxes : List (List BoxNode)) (cs : List Context) (n : ℕ) → (0 < length spots → n ≡ length spots) → AreNumberedTo spots boxes cs n → AreNumberedTo spots boxes cs (length spots)
all_numbered spots boxes cs n e are = record {
  count = are.count;
  each = λ i lt. (let same = e (omega (arith, lt, are.count)) in rw (← same) (are.each i lt));
}
