-- The formatting contexts on a way are of the contexts on it: where none of the boxes around a box in the list of its home is a holder,
-- and none around that home, none around the box in its context is.
use Rattle.std.proofs.Common.{◌≡◌, ℕ, zero, suc, ◌<◌, ◌≤◌, Bool, true, false, List, [], ◌∷◌, length, slice_index, refl, ap, sym, subst, ◌∙◌, arith, Option, None}
use Rattle.lay_box_tree.specs.BoxColumns.{box_at}
use Rattle.lay_box_tree.specs.Containers.{box_parent}
use Rattle.lay_box_tree.specs.ContextBoxes.{AreContextBoxes}
use Rattle.lay_box_tree.specs.declared.box_tree.BoxNode.{BoxNode}
use Rattle.lay_contexts.specs.Contexts.{AreContexts, Context, boxes_in}
use Rattle.lay_contexts.specs.FormattingBoxes.{as_member, at_home_before, boxes_of_root, place_inside, rank}
use Rattle.lay_contexts.specs.FormattingContexts.{FormattingContext, boxes_in as boxes_of, formatting_context_at}
use Rattle.lay_contexts.specs.FormattingContextList.{AreFormattingContextsOf, homes_in, number_at, number_of, rank_at, spot_of}
use Rattle.lay_contexts.specs.Homes.{AreHomes, IsHome, is_root}
use Rattle.lay_contexts.specs.declared.spot.Spot.{Spot}
use Rattle.lay_shape.proofs.Cited.{at_rank, boxes_around, home_root, home_there, is_home, not_own, parent_at, parent_low, place_other, place_root, rank_next, rank_some, root_home, same_home, spot_there, stands_there}
use Rattle.lay_positioned.specs.Holders.{IsHolderFor, IsNearestHolder, further, is_holder, is_holder_at, none, parent}
use Rattle.lay_positioned.specs.Ways.{IsOnWayFrom as IsOnWayAmong, here as here_among, further as further_among}
use Rattle.lay_shape.specs.Ways.{IsOnContextWayFrom, here as on_here, further as on_further}

pub holder_of : (boxes : List BoxNode) (k : ℕ) → is_holder_at boxes k ≡ is_holder (box_at boxes k)
holder_of [] k = refl
holder_of (b ∷ bs) zero = refl
holder_of (b ∷ bs) (suc k) = holder_of bs k

no_holder : (boxes : List BoxNode) (k : ℕ) (o : Option ℕ) → IsNearestHolder boxes k o → o ≡ None → 0 < k
    → (is_holder_at boxes (box_parent boxes k) ≡ false) × IsNearestHolder boxes (box_parent boxes k) None
no_holder boxes k o none q some = absurd (omega (arith, some))
no_holder boxes k o (parent j above e) q some = absurd cc
no_holder boxes k o (further j d above e up) q some = (e, subst (λ x. IsNearestHolder boxes (box_parent boxes j) x) q up)

module _ (boxes : List BoxNode) (homes : List ℕ) (are : AreContextBoxes boxes) (found : AreHomes boxes homes) (h : ℕ) where
  abbrev own : List BoxNode
  own = boxes_of_root boxes homes h

  -- the parent of a box in the list of its home
  parent_is : (k : ℕ) → 0 < k → k < length boxes → slice_index homes k ≡ h → box_parent own (rank homes k) ≡ place_inside boxes homes (box_parent boxes k)
  parent_is k some within home =
      let at_home = is_home homes h k some home in
      let s = stands_there homes h (length boxes) k within at_home in
      ap (box_parent own) (rank_next homes h k at_home) ∙ parent_at boxes homes h (length (at_home_before homes h k)) s.inside ∙ ap (λ (j : ℕ). place_inside boxes homes (box_parent boxes j)) s.is

  outward : (fuel k : ℕ) → k ≤ fuel → k < length boxes → slice_index homes k ≡ h → IsNearestHolder own (rank homes k) None → IsNearestHolder boxes h None → IsNearestHolder boxes k None
  outward fuel zero le within home inner outer = none
  outward zero (suc k) le within home inner outer = absurd (omega (arith, le))
  outward (suc fuel) (suc k) le within home inner outer =
      let q = box_parent boxes (suc k) in
      let step = no_holder own (rank homes (suc k)) None inner refl (rank_some homes (suc k) (omega arith)) in
      let place = parent_is (suc k) (omega arith) within home in
      let low = parent_low boxes are.tree (suc k) (omega arith) within in
      let empty : is_holder_at own (place_inside boxes homes q) ≡ false = subst (λ (p : ℕ). is_holder_at own p ≡ false) place step.0 in
      let up : IsNearestHolder own (place_inside boxes homes q) None = subst (λ (p : ℕ). IsNearestHolder own p None) place step.1 in
      by (is_root boxes q) refl low empty up
      (λ home_q up_q. outward fuel q (omega (arith, le, low)) (omega (arith, low, within)) home_q up_q outer)
    where
      by : (b : Bool) → is_root boxes (box_parent boxes (suc k)) ≡ b → box_parent boxes (suc k) < suc k
          → is_holder_at own (place_inside boxes homes (box_parent boxes (suc k))) ≡ false
          → IsNearestHolder own (place_inside boxes homes (box_parent boxes (suc k))) None
          → (slice_index homes (box_parent boxes (suc k)) ≡ h → IsNearestHolder own (rank homes (box_parent boxes (suc k))) None → IsNearestHolder boxes (box_parent boxes (suc k)) None)
          → IsNearestHolder boxes (suc k) None
      by true e low empty up go =
          let q = box_parent boxes (suc k) in
          let same : h ≡ q = root_home boxes (suc k) h (omega arith) e (subst (IsHome boxes (suc k)) home (found.each (suc k) within)) in
          let first : is_holder_at own 0 ≡ false = subst (λ (p : ℕ). is_holder_at own p ≡ false) (place_root boxes homes q e) empty in
          let there : is_holder_at boxes q ≡ false = holder_of boxes q ∙ ap (λ (g : ℕ). is_holder (box_at boxes g)) (sym same) ∙ first in
          further (suc k) None (omega arith) there (subst (λ (g : ℕ). IsNearestHolder boxes g None) same outer)
      by false e low empty up go =
          let q = box_parent boxes (suc k) in
          let inside : q < length boxes = omega (arith, low, within) in
          let same : h ≡ slice_index homes q = same_home boxes (suc k) h (slice_index homes q) (omega arith) e (subst (IsHome boxes (suc k)) home (found.each (suc k) within)) (found.each q inside) in
          let place = place_other boxes homes q e in
          let first : is_holder_at own (rank homes q) ≡ false = subst (λ (p : ℕ). is_holder_at own p ≡ false) place empty in
          let member : box_at own (rank homes q) ≡ as_member boxes homes q = at_rank boxes homes h q inside (is_home homes h q (not_own boxes q e) (sym same)) in
          let there : is_holder_at boxes q ≡ false = holder_of boxes q ∙ sym (holder_of own (rank homes q) ∙ ap is_holder member) ∙ first in
          further (suc k) None (omega arith) there (go (sym same) (subst (λ (p : ℕ). IsNearestHolder own p None) place up))

  -- the same of what counts for a fixed box or another one
  pub no_holder_out : (fixed : Bool) (k : ℕ) → k < length boxes → slice_index homes k ≡ h → IsHolderFor fixed own (rank homes k) None → IsHolderFor fixed boxes h None → IsHolderFor fixed boxes k None
  no_holder_out true k within home inner outer = refl
  no_holder_out false k within home inner outer = outward k k (omega arith) within home inner outer

own_none : (fixed : Bool) (boxes : List BoxNode) → IsHolderFor fixed boxes 0 None
own_none true boxes = refl
own_none false boxes = none

module _ (contexts : List Context) (all : List FormattingContext) (are : AreContexts contexts) (of : AreFormattingContextsOf contexts all) (fixed : Bool) where
  abbrev home : ℕ → ℕ → ℕ
  home c k = slice_index (homes_in of.homes c) k

  -- the one with the number m is of a context that is on the way from the box at k in the context c
  pub record WayThere (m c k : ℕ) : Type 0 where
    pub context : ℕ
    pub root : ℕ
    pub within : context < length contexts
    pub inside : root < length (boxes_in contexts context)
    pub is_root : is_root (boxes_in contexts context) root ≡ true
    pub number : m ≡ number_of contexts context root
    pub on : IsOnContextWayFrom fixed contexts context c k

  -- there is no holder around the box at k, where there is none around its home, in the context c
  none_there : (c k : ℕ) → c < length contexts → k < length (boxes_in contexts c)
      → IsHolderFor fixed (boxes_of all (number_of contexts c (home c k))) (rank (homes_in of.homes c) k) None → IsHolderFor fixed (boxes_in contexts c) (home c k) None → IsHolderFor fixed (boxes_in contexts c) k None
  none_there c k lt inside inner outer =
      let boxes = boxes_around contexts all are of c k lt inside in
      no_holder_out (boxes_in contexts c) (homes_in of.homes c) (are.boxes c lt) (of.homes_are.each c lt) (home c k) fixed k inside refl
      (subst (λ (bs : List BoxNode). IsHolderFor fixed bs (rank (homes_in of.homes c) k) None) boxes inner) outer

  longer : (m c k : ℕ) → c < length contexts → k < length (boxes_in contexts c)
      → IsHolderFor fixed (boxes_of all (number_of contexts c (home c k))) (rank (homes_in of.homes c) k) None → (w : WayThere m c (home c k)) → WayThere m c k
  longer m c k lt inside inner w = record {
    context = w.context;
    root = w.root;
    within = w.within;
    inside = w.inside;
    is_root = w.is_root;
    number = w.number;
    on = by w.context w.on;
  }
    where
      by : (j : ℕ) → IsOnContextWayFrom fixed contexts j c (home c k) → IsOnContextWayFrom fixed contexts j c k
      by j (on_here k-2) = on_here k
      by j (on_further c-2 k-2 some outer rest) = on_further c k some (none_there c k lt inside inner outer) rest

  out_of : (m c k h : ℕ) → home c k ≡ h → c < length contexts → k < length (boxes_in contexts c) → 0 < number_of contexts c h
      → IsHolderFor fixed (boxes_of all (number_of contexts c (home c k))) (rank (homes_in of.homes c) k) None
      → WayThere m (spot_of contexts c h).context (spot_of contexts c h).place → WayThere m c k
  out_of m zero k zero e lt inside some inner w = absurd (omega (arith, some))
  out_of m (suc c) k zero e lt inside some inner w = record {
    context = w.context;
    root = w.root;
    within = w.within;
    inside = w.inside;
    is_root = w.is_root;
    number = w.number;
    on = on_further (suc c) k (omega arith) (none_there (suc c) k lt inside inner (subst (λ (g : ℕ). IsHolderFor fixed (boxes_in contexts (suc c)) g None) (sym e) (own_none fixed (boxes_in contexts (suc c))))) w.on;
  }
  out_of m zero k (suc h) e lt inside some inner w = longer m zero k lt inside inner (subst (λ (g : ℕ). WayThere m zero g) (sym e) w)
  out_of m (suc c) k (suc h) e lt inside some inner w = longer m (suc c) k lt inside inner (subst (λ (g : ℕ). WayThere m (suc c) g) (sym e) w)

  pub way_contexts : (m x y c k : ℕ) → IsOnWayAmong fixed all m x y → c < length contexts → k < length (boxes_in contexts c) → x ≡ number_of contexts c (home c k) → y ≡ rank (homes_in of.homes c) k → WayThere m c k
  way_contexts m x y c k (here_among y-2) lt inside ex ey = record {
    context = c;
    root = home c k;
    within = lt;
    inside = home_there contexts of.homes are of.homes_are c k lt inside;
    is_root = home_root contexts of.homes are of.homes_are c k lt inside;
    number = ex;
    on = on_here k;
  }
  way_contexts m x y c k (further_among x-2 y-2 some free rest) lt inside ex ey =
      let h = home c k in
      let there = home_there contexts of.homes are of.homes_are c k lt inside in
      let root = home_root contexts of.homes are of.homes_are c k lt inside in
      let is = ap (formatting_context_at all) ex ∙ of.each c h lt there root in
      let s : Spot = spot_of contexts c h in
      let t = spot_there contexts are c h lt there in
      let outer : (formatting_context_at all x).outer ≡ number_at contexts of.homes s = ap (λ (f : FormattingContext). f.outer) is in
      let outer_box : (formatting_context_at all x).outer_box ≡ rank_at of.homes s = ap (λ (f : FormattingContext). f.outer_box) is in
      let w = way_contexts m (formatting_context_at all x).outer (formatting_context_at all x).outer_box s.context s.place rest t.context t.place outer outer_box in
      let inner = subst (λ (a : ℕ). IsHolderFor fixed (boxes_of all a) (rank (homes_in of.homes c) k) None) ex (subst (λ (b : ℕ). IsHolderFor fixed (boxes_of all x) b None) ey free) in
      out_of m c k h refl lt inside (omega (arith, some, ex)) inner w
