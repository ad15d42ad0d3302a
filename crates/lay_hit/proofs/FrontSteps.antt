-- Of each node the frontmost of those that it paints in which a piece is seen: what is seen in the node is what is seen there.
use Rattle.std.proofs.Common.{◌≡◌, ℕ, zero, suc, ◌+◌, ◌-◌, ◌<◌, ◌≤◌, Bool, true, false, cond, not, ◌||◌, List, ◌∷◌, length, slice_index_or, refl, sym, ap, ◌∙◌, subst, arith, ◌⊎◌, inl, inr, Option, Some, None, pos, if◌then◌else◌}
use Rattle.std.proofs.lemmas.Bool.{cases_eq, cases_lt, cases_Bool, and_from, eqb-true, eqb-false, eq-eqb, ne_eqb, le-leb}
use Rattle.std.specs.Prelude.{◌==◌, is_some, unwrap_or, option_and_then, nat_le}
use Rattle.std.specs.Option.{option_or}
use Rattle.std.specs.List.{filter, flat_map, range_with_len, last_or, AllByRecursion}
use Rattle.lay_doc.specs.Document.{Document, IsDocument}
use Rattle.lay_frag.specs.declared.frag.Frag.{Frag}
use Rattle.lay_frag.specs.Pieces.{frags_of}
use Rattle.lay_hit.specs.declared.question.Question.{Question}
use Rattle.lay_style.specs.declared.style.Style.{Style}
use Rattle.lay_style.specs.ComputedStyle.{style_at}
use Rattle.lay_hit.specs.declared.kinds.PaintKind.{PaintKind}
use Rattle.lay_hit.specs.declared.kinds.PaintKind.TheVariants.{Stacking, Layered, Float, Atomic, Block, Inline}
use Rattle.lay_hit.specs.PaintKinds.{is_stacking, forms_group, kind_at, stacking_level_of}
use Rattle.lay_hit.specs.Hits.{holds, hit_of}
use Rattle.lay_hit.specs.Sorting.{in_order}
use Rattle.lay_hit.specs.Pages.{Page, page_of}
use Rattle.lay_hit.specs.Painting.{painting}
use Rattle.lay_hit.specs.Ranks.{painter_at}
use Rattle.lay_hit.specs.Wholes.{own_pieces, is_painted_under, painted_by, whole}
use Rattle.lay_hit.specs.OrderedPages.{IsOrdered}
use Rattle.lay_hit.specs.Questions.{AreNoted, page, seen_in}
use Rattle.lay_hit.specs.Fronts.{IsFrontmost, front_from, later_of, last_in_order}
use Rattle.lay_hit.proofs.Orders.{lastly, last-lastly, lastly-append, lastly-counts, lastly-flat_map}
use Rattle.lay_hit.proofs.Rising.{all-in_order, all-lastly, lastly-in_order}
use Rattle.lay_hit.proofs.RankOrder.{rank_order}
use Rattle.lay_hit.proofs.Frontmost.{also, none, single, only, first, later, earlier}
use Rattle.lay_hit.proofs.WaitSteps.{no_both}
use Rattle.lay_hit.proofs.Asked.{parent_before_in}
use Rattle.lay_hit.proofs.PaintedBy.{all-passing, all-range, painter-before}
use Rattle.lay_hit.proofs.WholePaint.{paint-whole, whole_is}

level_flat : (k : PaintKind) (s : Style) → is_stacking k ≡ false → stacking_level_of k s ≡ pos 0
level_flat Stacking s e = absurd cc
level_flat Layered s e = refl
level_flat Float s e = refl
level_flat Atomic s e = refl
level_flat Block s e = refl
level_flat Inline s e = refl

pub ordered : (d : Document) (styles : List Style) (fs : List Frag) → IsDocument d → IsOrdered (page_of d.nodes styles fs)
ordered d styles fs is = record {
  some = is.some;
  root = refl;
  before = parent_before_in d is;
  level = λ k plain. level_flat (kind_at d.nodes styles k) (style_at styles k) plain;
}

pub page_ordered : (q : Question) → IsDocument q.doc.now → IsOrdered (page q)
page_ordered q is = ordered q.doc.now q.styles.now (frags_of q.tree.now) is

-- which of two is kept, the node at k or another that stands behind it; 0 is none
abbrev pub front_of : Page → ℕ → ℕ → ℕ
front_of p k other = if other == 0 then k else (if is_painted_under p k other then other else k)

module _ (p : Page) (o : IsOrdered p) (h : Frag → Bool) where
  abbrev pub seen : ℕ → Option Frag
  seen k = last_or None (filter h (whole p p.count k))

  abbrev pub has : ℕ → Bool
  has k = is_some (seen k)

  abbrev pub own : ℕ → Option Frag
  own k = last_or None (filter h (own_pieces p k))

  abbrev pub mine_from : ℕ → ℕ → List ℕ
  mine_from n g = filter (λ k. painter_at p k == g) (range_with_len n (p.count - n))

  abbrev pub best : List ℕ → Option ℕ
  best ks = last_in_order (is_painted_under p) has ks

  abbrev pub front : ℕ → ℕ → ℕ
  front n g = unwrap_or (best (mine_from n g)) 0

  split_found : (g : ℕ) → g < p.count → lastly h (whole p p.count g) ≡ option_or (option_and_then (λ k. lastly h (whole p p.count k)) (last_in_order (is_painted_under p) (λ k. is_some (lastly h (whole p p.count k))) (mine_from 1 g))) (lastly h (own_pieces p g))
  split_found g within =
      ap (lastly h) (whole_is p o g within) ∙ lastly-append h (own_pieces p g) (flat_map (whole p p.count) (painted_by p g))
      ∙ ap (λ (r : Option Frag). option_or r (lastly h (own_pieces p g))) (lastly-flat_map h (whole p p.count) (painted_by p g)
      ∙ ap (option_and_then (λ k. lastly h (whole p p.count k))) (lastly-in_order (is_painted_under p) (rank_order p) (λ k. is_some (lastly h (whole p p.count k))) (mine_from 1 g)))

  same_found : ◌≡◌ {A = ℕ → Option Frag} (λ k. lastly h (whole p p.count k)) (λ k. last_or None (filter h (whole p p.count k)))
  same_found = λ i k. sym (last-lastly h (whole p p.count k)) i

  seen-split : (g : ℕ) → g < p.count → seen g ≡ option_or (option_and_then seen (best (mine_from 1 g))) (own g)
  seen-split g within =
      subst (λ (f : ℕ → Option Frag). f g ≡ option_or (option_and_then f (last_in_order (is_painted_under p) (λ k. is_some (f k)) (mine_from 1 g))) (own g)) same_found
      (split_found g within ∙ ap (option_or (option_and_then (λ k. lastly h (whole p p.count k)) (last_in_order (is_painted_under p) (λ k. is_some (lastly h (whole p p.count k))) (mine_from 1 g)))) (sym (last-lastly h (own_pieces p g))))

  -- the frontmost of some nodes is one of them, and has a piece that is seen
  best-has : (ks : List ℕ) (m : ℕ) → best ks ≡ Some m → has m ≡ true
  best-has ks m e = lastly-counts has (in_order (is_painted_under p) ks) m (lastly-in_order (is_painted_under p) (rank_order p) has ks ∙ e)

  best-all : (P : ℕ → Type 0) (ks : List ℕ) (m : ℕ) → AllByRecursion P ks → best ks ≡ Some m → P m
  best-all P ks m all e = all-lastly (is_painted_under p) P has (in_order (is_painted_under p) ks) m (all-in_order (is_painted_under p) P ks all) (lastly-in_order (is_painted_under p) (rank_order p) has ks ∙ e)

  mine-all : (n g : ℕ) → 0 < n → AllByRecursion (λ k. (n ≤ k) × (k < p.count) × (g < k)) (mine_from n g)
  mine-all n g some = all-passing (λ k. (n ≤ k) × (k < p.count) × (g < k)) (λ k. (n ≤ k) × (k < p.count)) (λ k. painter_at p k == g) (range_with_len n (p.count - n))
      (all-range (λ k. (n ≤ k) × (k < p.count)) n (p.count - n) (λ k low high. (low, omega (arith, low, high))))
      (λ k there is. (there.0, there.1, (let e = eqb-true (painter_at p k) g is in let b = painter-before p o k (omega (arith, some, there.0)) in omega (arith, e, b))))

  -- where no node is in front, what is seen is the node's own
  pub at_front : (g : ℕ) → g < p.count → front 1 g ≡ 0 → seen g ≡ own g
  at_front g within none = seen-split g within ∙ by_best (best (mine_from 1 g)) refl none
    where
      by_best : (r : Option ℕ) → best (mine_from 1 g) ≡ r → unwrap_or r 0 ≡ 0 → option_or (option_and_then seen r) (own g) ≡ own g
      by_best None is e = refl
      by_best (Some m) is e = let low = best-all (λ k. (1 ≤ k) × (k < p.count) × (g < k)) (mine_from 1 g) m (mine-all 1 g (omega arith)) is in absurd (omega (arith, e, low.0))

  -- and else what is seen in that one
  pub through_front : (g : ℕ) → g < p.count → (front 1 g ≡ 0 → ⊥) → (seen g ≡ seen (front 1 g)) × (g < front 1 g) × (front 1 g < p.count)
  through_front g within some = by_best (best (mine_from 1 g)) refl some
    where
      picks : (x y : Option Frag) → is_some x ≡ true → option_or x y ≡ x
      picks None y e = absurd cc
      picks (Some z) y e = refl

      by_best : (r : Option ℕ) → best (mine_from 1 g) ≡ r → (unwrap_or r 0 ≡ 0 → ⊥) → (seen g ≡ seen (unwrap_or r 0)) × (g < unwrap_or r 0) × (unwrap_or r 0 < p.count)
      by_best None is e = absurd (e refl)
      by_best (Some m) is e =
          let low = best-all (λ k. (1 ≤ k) × (k < p.count) × (g < k)) (mine_from 1 g) m (mine-all 1 g (omega arith)) is in
          (seen-split g within ∙ ap (λ (r : Option ℕ). option_or (option_and_then seen r) (own g)) is ∙ picks (seen m) (own g) (best-has (mine_from 1 g) m is), low.2, low.1)

  -- whether a piece is seen in a node, by its own pieces and by those of the nodes that it paints
  pub seen_either : (k : ℕ) → k < p.count → has k ≡ (is_some (own k) || not (front 1 k == 0))
  seen_either k within = ap is_some (seen-split k within) ∙ by_best (best (mine_from 1 k)) refl
    where
      plain : (b : Bool) → b ≡ (b || not (0 == 0))
      plain true = refl
      plain false = refl

      picks : (x y : Option Frag) → is_some x ≡ true → is_some (option_or x y) ≡ true
      picks None y e = absurd cc
      picks (Some z) y e = refl

      always : (b c : Bool) → c ≡ false → (b || not c) ≡ true
      always true c e = refl
      always false true e = absurd cc
      always false false e = refl

      by_best : (r : Option ℕ) → best (mine_from 1 k) ≡ r → is_some (option_or (option_and_then seen r) (own k)) ≡ (is_some (own k) || not (unwrap_or r 0 == 0))
      by_best None is = plain (is_some (own k))
      by_best (Some m) is =
          let low = best-all (λ j. (1 ≤ j) × (j < p.count) × (k < j)) (mine_from 1 k) m (mine-all 1 k (omega arith)) is in
          picks (seen m) (own k) (best-has (mine_from 1 k) m is) ∙ sym (always (is_some (own k)) (m == 0) (ne_eqb m 0 (λ e. omega (arith, e, low.0))))

  mine_step : (k g : ℕ) → k < p.count → mine_from k g ≡ cond (painter_at p k == g) (k ∷ mine_from (k + 1) g) (mine_from (k + 1) g)
  mine_step k g within = let e : p.count - k ≡ suc (p.count - (k + 1)) = omega arith in ap (λ (n : ℕ). filter (λ j. painter_at p j == g) (range_with_len k n)) e

  -- one node more, in which no piece is seen
  pub front_unseen : (k g : ℕ) → k < p.count → has k ≡ false → front k g ≡ front (k + 1) g
  front_unseen k g within none = ap (λ (ks : List ℕ). unwrap_or (best ks) 0) (mine_step k g within) ∙ by_test (painter_at p k == g)
    where
      by_test : (b : Bool) → unwrap_or (best (cond b (k ∷ mine_from (k + 1) g) (mine_from (k + 1) g))) 0 ≡ front (k + 1) g
      by_test true = ap (λ (c : Bool). unwrap_or (later_of (is_painted_under p) (cond c (Some k) None) (best (mine_from (k + 1) g))) 0) none
      by_test false = refl

  -- one that another node paints
  pub front_other : (k g : ℕ) → k < p.count → (painter_at p k ≡ g → ⊥) → front k g ≡ front (k + 1) g
  front_other k g within other = ap (λ (ks : List ℕ). unwrap_or (best ks) 0) (mine_step k g within ∙ ap (λ (b : Bool). cond b (k ∷ mine_from (k + 1) g) (mine_from (k + 1) g)) (ne_eqb (painter_at p k) g other))

  -- and one that the node paints, in which a piece is seen
  pub front_seen : (k g : ℕ) → k < p.count → painter_at p k ≡ g → has k ≡ true → front k g ≡ front_of p k (front (k + 1) g)
  front_seen k g within mine one =
      ap (λ (ks : List ℕ). unwrap_or (best ks) 0) (mine_step k g within ∙ ap (λ (b : Bool). cond b (k ∷ mine_from (k + 1) g) (mine_from (k + 1) g)) (eq-eqb (painter_at p k) g mine))
      ∙ ap (λ (c : Bool). unwrap_or (later_of (is_painted_under p) (cond c (Some k) None) (best (mine_from (k + 1) g))) 0) one
      ∙ by_best (best (mine_from (k + 1) g)) refl
    where
      picked : (m : ℕ) (b : Bool) → unwrap_or (cond b (Some m) (Some k)) 0 ≡ (if b then m else k)
      picked m true = refl
      picked m false = refl

      chosen : (m : ℕ) → 0 < m → (b : Bool) → unwrap_or (cond b (Some m) (Some k)) 0 ≡ (if m == 0 then k else (if b then m else k))
      chosen m some b = picked m b ∙ ap (λ (z : Bool). if z then k else (if b then m else k)) (sym (ne_eqb m 0 (λ e. omega (arith, e, some))))

      by_best : (r : Option ℕ) → best (mine_from (k + 1) g) ≡ r → unwrap_or (later_of (is_painted_under p) (Some k) r) 0 ≡ front_of p k (unwrap_or r 0)
      by_best None is = refl
      by_best (Some m) is =
          let low = best-all (λ j. (k + 1 ≤ j) × (j < p.count) × (g < j)) (mine_from (k + 1) g) m (mine-all (k + 1) g (omega arith)) is in
          chosen m (omega (arith, low.0)) (is_painted_under p k m)

  -- no nodes
  pub front_none : (n g : ℕ) → p.count ≤ n → front n g ≡ 0
  front_none n g behind = let e : p.count - n ≡ 0 = omega arith in ap (λ (m : ℕ). unwrap_or (best (filter (λ j. painter_at p j == g) (range_with_len n m))) 0) e

  -- So it is the frontmost of those that the node paints.
  pub record Mine (n g k : ℕ) : Type 0 where
    pub walked : n ≤ k
    pub within : k < p.count
    pub painter : painter_at p k ≡ g
    pub counted : has k ≡ true

  more_mine : (n g k : ℕ) → Mine (n + 1) g k → Mine n g k
  more_mine n g k m = record { walked = (let l = m.walked in omega (arith, l)); within = m.within; painter = m.painter; counted = m.counted }

  -- one node more, which isn't one of them, or is
  front_same : (n g : ℕ) → n < p.count → (Mine n g n → ⊥) → front n g ≡ front (n + 1) g → IsFrontmost p (Mine (n + 1) g) (front (n + 1) g) → IsFrontmost p (Mine n g) (front n g)
  front_same n g within not_mine same is =
      subst (IsFrontmost p (Mine n g)) (sym same) (also p (Mine (n + 1) g) (Mine n g) (front (n + 1) g) (more_mine n g) back is)
    where
      back : (k : ℕ) → Mine n g k → Mine (n + 1) g k
      back k m = elim (cases_eq k n) [
        | inl here ↦ absurd (not_mine (subst (Mine n g) here m))
        | inr other ↦ record { walked = (let l = m.walked in omega (arith, l, other)); within = m.within; painter = m.painter; counted = m.counted }
      ]

  abbrev just : ℕ → ℕ → Type 0
  just n k = (k ≡ n) × (true ≡ true)

  front_more : (n g : ℕ) → 0 < n → Mine n g n → IsFrontmost p (Mine (n + 1) g) (front (n + 1) g) → IsFrontmost p (Mine n g) (front n g)
  front_more n g some mine is = subst (IsFrontmost p (Mine n g)) (sym (front_seen n g mine.within mine.painter mine.counted)) (chosen (front (n + 1) g) is)
    where
      apart : (k : ℕ) → Mine n g k → just n k ⊎ Mine (n + 1) g k
      apart k m = elim (cases_eq k n) [
        | inl here ↦ inl (here, refl)
        | inr other ↦ inr (record { walked = (let l = m.walked in omega (arith, l, other)); within = m.within; painter = m.painter; counted = m.counted })
      ]

      left : (k : ℕ) → just n k → Mine n g k
      left k here = subst (Mine n g) (sym here.0) mine

      late : (c d : Bool) → d ≡ true → (not c || d) ≡ true
      late true d e = e
      late false d e = refl

      over : (c d : Bool) → c ≡ false → (not c || d) ≡ true
      over true d e = absurd cc
      over false d e = refl

      chosen : (m : ℕ) → IsFrontmost p (Mine (n + 1) g) m → IsFrontmost p (Mine n g) (front_of p n m)
      chosen m is = by_none (m == 0) refl
        where
          by_order : 0 < m → (b : Bool) → is_painted_under p n m ≡ b → IsFrontmost p (Mine n g) (if b then m else n)
          by_order more true under =
              let l = (is.one more).walked in
              later p (just n) (Mine (n + 1) g) (Mine n g) n m (single p true n some) is apart left (more_mine n g) more
              (and_from (is_painted_under p n m) (not (is_painted_under p m n) || nat_le n m) under (late (is_painted_under p m n) (nat_le n m) (le-leb n m (omega (arith, l)))))
          by_order more false over_it =
              earlier p (just n) (Mine (n + 1) g) (Mine n g) n m (single p true n some) is apart left (more_mine n g) some
              (and_from (is_painted_under p m n) (not (is_painted_under p n m) || nat_le m n) ((rank_order p).either n m over_it) (over (is_painted_under p n m) (nat_le m n) over_it))

          by_none : (b : Bool) → (m == 0) ≡ b → IsFrontmost p (Mine n g) (if b then n else (if is_painted_under p n m then m else n))
          by_none true e = first p (just n) (Mine (n + 1) g) (Mine n g) n m (single p true n some) is apart left (more_mine n g) (eqb-true m 0 e)
          by_none false e = by_order (let e2 = eqb-false m 0 e in omega (arith, e2)) (is_painted_under p n m) refl

  -- by as many steps as there are nodes from n on
  fronts_from : (t n g : ℕ) → 0 < n → p.count ≤ n + t → IsFrontmost p (Mine n g) (front n g)
  fronts_from zero n g some past = subst (IsFrontmost p (Mine n g)) (sym (front_none n g (omega (arith, past)))) (none p (Mine n g) (λ k m. let l = m.walked in let w = m.within in omega (arith, l, w, past)))
  fronts_from (suc t) n g some past = elim (cases_lt n p.count) [
    | inl within ↦ one_more within (fronts_from t (n + 1) g (omega arith) (omega (arith, past)))
    | inr high ↦ subst (IsFrontmost p (Mine n g)) (sym (front_none n g high)) (none p (Mine n g) (λ k m. let l = m.walked in let w = m.within in omega (arith, l, w, high)))
  ]
    where
      one_more : n < p.count → IsFrontmost p (Mine (n + 1) g) (front (n + 1) g) → IsFrontmost p (Mine n g) (front n g)
      one_more within rest = elim (cases_eq (painter_at p n) g) [
        | inr other ↦ front_same n g within (λ m. other m.painter) (front_other n g within other) rest
        | inl mine ↦ elim (cases_Bool (has n)) [
          | inl one ↦ front_more n g some (record { walked = (omega arith); within = within; painter = mine; counted = one }) rest
          | inr blank ↦ front_same n g within (λ m. no_both m.counted blank) (front_unseen n g within blank) rest
        ]
      ]

  pub frontmost_is : (g f : ℕ) → IsFrontmost p (Mine 1 g) f → f ≡ front 1 g
  frontmost_is g f is = only p (Mine 1 g) f (front 1 g) is (fronts_from p.count 1 g (omega arith) (omega arith))

  -- what is seen in the root is what is painted last
  pub seen_root : last_or None (filter h (painting p)) ≡ seen 0
  seen_root = ap (λ (fs : List Frag). last_or None (filter h fs)) (paint-whole p o p.count 0 (omega arith) o.some (ap forms_group o.root))

-- The walk from the root on.
module _ (q : Question) (is : IsDocument q.doc.now) where
  abbrev at_point : Frag → Bool
  at_point f = holds q.at.x.0 q.at.y.0 f

  pub root_seen : hit_of q.doc.now q.styles.now q.tree.now q.at.x.0 q.at.y.0 ≡ seen_in q 0
  unfolding hit_of
  root_seen = seen_root (page q) (page_ordered q is) at_point

  module _ (at next : ℕ) (within : at < length q.doc.now.nodes) (next_is : next ≡ front_from q 1 at) where
    pub goes_on : (next ≡ 0 → ⊥) → (seen_in q at ≡ seen_in q next) × (at < next) × (next < length q.doc.now.nodes)
    goes_on more = subst (λ (n : ℕ). (seen_in q at ≡ seen_in q n) × (at < n) × (n < length q.doc.now.nodes)) (sym next_is)
        (through_front (page q) (page_ordered q is) at_point at within (λ e. more (next_is ∙ e)))

    pub ends : (noted : List (Option Frag)) → AreNoted q (frags_of q.tree.now) noted → next ≡ 0 → seen_in q at ≡ slice_index_or noted at None
    ends noted kept none = at_front (page q) (page_ordered q is) at_point at within (sym next_is ∙ none) ∙ sym (kept.each at within)
