-- The own nodes of a context as a list.
use Rattle.std.proofs.Common.{◌≡◌, inl, inr, ℕ, zero, suc, ◌+◌, ◌-◌, ◌<◌, ◌==◌, nat_lt, Bool, true, false, List, [], ◌∷◌, length, map, filter, refl, ap, sym, subst, ◌∙◌, arith, if◌then◌else◌, Option, None, Some, slice_get, slice_index}
use Rattle.std.proofs.lemmas.Bool.{cases_eq, eq-eqb, eqb-true, lt-ltb, ltb-true, ne_eqb}
use Rattle.std.proofs.lemmas.List.{get_or-map}
use Rattle.lay_style.specs.declared.style.Style.{Style}
use Rattle.lay_style.specs.ComputedStyle.{style_at}
use Rattle.lay_doc.specs.declared.node.Node.{Node}
use Rattle.lay_doc.specs.Document.{parents_of}
use Rattle.lay_doc.specs.Tree.{IsTree}
use Rattle.lay_doc.proofs.NodeColumns.{length-parents}
use Rattle.lay_boxgen.specs.Contexts.{box_at, is_marked}
use Rattle.lay_contexts.specs.ContextTree.{IsAround, further, parent, parent_of}
use Rattle.lay_contexts.specs.NodeTreeLaws.{places_from}
use Rattle.lay_contexts.specs.OwnNodes.{AreOwnNodes, IsOwnNode, OwnNode, no_node, own_at}
use Rattle.lay_contexts.proofs.RisingLists.{AllAbove, Has, Rises, from-has, has-from, rises-from}

-- Members of a list of numbers, and where they stand.
pub has-get : (xs : List ℕ) (i : ℕ) → i < length xs → Has xs (slice_index xs i)
has-get [] i lt = absurd (omega (arith, lt))
has-get (x ∷ xs) zero lt = inl refl
has-get (x ∷ xs) (suc i) lt = inr (has-get xs i (omega (arith, lt)))

pub get-has : (xs : List ℕ) (k : ℕ) → Has xs k → (i : ℕ) × (i < length xs) × (slice_index xs i ≡ k)
get-has [] k h = absurd h
get-has (x ∷ xs) k (inl e) = (0, omega arith, e)
get-has (x ∷ xs) k (inr h) = let r = get-has xs k h in (suc r.0, (let lt = r.1 in omega (arith, lt)), r.2)

all-above : (x : ℕ) (xs : List ℕ) → ((k : ℕ) → Has xs k → x < k) → AllAbove x xs
all-above x [] h = tt
all-above x (y ∷ ys) h = (h y (inl refl), all-above x ys (λ k m. h k (inr m)))

above-get : (x : ℕ) (xs : List ℕ) (i : ℕ) → AllAbove x xs → i < length xs → x < slice_index xs i
above-get x [] i h lt = absurd (omega (arith, lt))
above-get x (y ∷ ys) zero h lt = h.0
above-get x (y ∷ ys) (suc i) h lt = above-get x ys i h.1 (omega (arith, lt))

rises-get : (xs : List ℕ) → Rises xs → (i j : ℕ) → i < j → j < length xs → slice_index xs i < slice_index xs j
rises-get [] h i j less lt = absurd (omega (arith, lt))
rises-get (x ∷ xs) h i zero less lt = absurd (omega (arith, less))
rises-get (x ∷ xs) h zero (suc j) less lt = above-get x xs j h.0 (omega (arith, lt))
rises-get (x ∷ xs) h (suc i) (suc j) less lt = rises-get xs h.1 i j (omega (arith, less)) (omega (arith, lt))

-- the number of a member
abbrev number : List ℕ → ℕ → ℕ
number [] k = 0
number (x ∷ xs) k = if x == k then 0 else suc (number xs k)

number-is : (xs : List ℕ) (k : ℕ) → Has xs k → (number xs k < length xs) × (slice_index xs (number xs k) ≡ k)
number-is [] k h = absurd h
number-is (x ∷ xs) k h = elim (cases_eq x k) [
  | inl same ↦ (let e : (x == k) ≡ true = eq-eqb x k same in rw e (omega arith, same))
  | inr other ↦ (let e : (x == k) ≡ false = ne_eqb x k other in
      let r = number-is xs k (elim h [ inl is ↦ absurd (other is) | inr m ↦ m ]) in
      rw e ((let lt = r.0 in omega (arith, lt)), r.1))
]

pub length-map : (f : ℕ → ℕ) (xs : List ℕ) → length (map f xs) ≡ length xs
length-map f [] = refl
length-map f (x ∷ xs) = ap suc (length-map f xs)

length-own : (f : ℕ → OwnNode) (xs : List ℕ) → length (map f xs) ≡ length xs
length-own f [] = refl
length-own f (x ∷ xs) = ap suc (length-own f xs)

pub got : {X : Type 0} (xs : List X) (k : ℕ) → k < length xs → (x : X) × (slice_get xs k ≡ Some x)
got [] k lt = absurd (omega (arith, lt))
got (x ∷ xs) zero lt = (x, refl)
got (x ∷ xs) (suc k) lt = got xs k (omega (arith, lt))

module _ (nodes : List Node) (styles : List Style) (a : ℕ) where
  -- the node at a is the nearest context above the node at k, where no more than n are between
  abbrev near_by : ℕ → (ℕ → Bool) → Bool → Bool → Bool
  near_by k rest above marked = if above then (if marked then parent_of nodes k == a else rest (parent_of nodes k)) else false

  abbrev is_near : (n k : ℕ) → Bool
  is_near zero k = false
  is_near (suc n) k = near_by k (is_near n) (nat_lt 0 k) (is_marked (box_at nodes styles (parent_of nodes k)))

  near-around : (n k : ℕ) → is_near n k ≡ true → IsAround nodes styles k a
  near-around zero k h = absurd cc
  near-around (suc n) k h = by (near-around n) (nat_lt 0 k) refl (is_marked (box_at nodes styles (parent_of nodes k))) refl h
    where
      by : ((j : ℕ) → is_near n j ≡ true → IsAround nodes styles j a) → (above : Bool) → nat_lt 0 k ≡ above → (marked : Bool) → is_marked (box_at nodes styles (parent_of nodes k)) ≡ marked → near_by k (is_near n) above marked ≡ true → IsAround nodes styles k a
      by rest false e m f g = absurd cc
      by rest true e true f g = subst (IsAround nodes styles k) (eqb-true (parent_of nodes k) a g) (parent k (ltb-true 0 k e) f)
      by rest true e false f g = further k a (ltb-true 0 k e) f (rest (parent_of nodes k) g)

  module _ (is_tree : IsTree (parents_of nodes)) where
    parent-before : (k : ℕ) → 0 < k → k < length nodes → parent_of nodes k < k
    parent-before k positive lt = is_tree.before k positive (let l = length-parents nodes in omega (arith, lt, l))

    around-near : (n k b : ℕ) → k < n → k < length nodes → IsAround nodes styles k b → b ≡ a → is_near n k ≡ true
    around-near zero k b few lt h is = absurd (omega (arith, few))
    around-near (suc n) _ _ few lt (parent k positive e) is = rw (lt-ltb 0 k positive, e) (eq-eqb (parent_of nodes k) a is)
    around-near (suc n) _ _ few lt (further k b positive e above) is =
        let before = parent-before k positive lt in
        rw (lt-ltb 0 k positive, e) (around-near n (parent_of nodes k) b (omega (arith, before, few)) (omega (arith, before, lt)) above is)

    pub around-before : (k b : ℕ) → k < length nodes → IsAround nodes styles k b → b < k
    around-before _ _ lt (parent k positive e) = parent-before k positive lt
    around-before _ _ lt (further k b positive e above) =
        let before = parent-before k positive lt in
        let rest = around-before (parent_of nodes k) b (omega (arith, before, lt)) above in
        omega (arith, before, rest)

    -- whether a node is around which it is the nearest context
    abbrev pub is_inside : ℕ → Bool
    is_inside k = is_near (length nodes) k

    pub inside-around : (k : ℕ) → is_inside k ≡ true → IsAround nodes styles k a
    inside-around k h = near-around (length nodes) k h

    pub around-inside : (k : ℕ) → k < length nodes → IsAround nodes styles k a → is_inside k ≡ true
    around-inside k lt h = around-near (length nodes) k a lt lt h refl

    abbrev inner_places : List ℕ
    inner_places = filter is_inside (places_from (a + 1) (length nodes - (a + 1)))

    abbrev pub own_places : List ℕ
    own_places = a ∷ inner_places

    abbrev made_of : ℕ → Style → Option Node → OwnNode
    made_of k s None = no_node
    made_of k s (Some n) = record { id = n.id; kind = n.kind; text = n.text; style = s; is_root = k == 0; parent = number own_places (parent_of nodes k) }

    abbrev made_at : ℕ → OwnNode
    made_at k = made_of k (style_at styles k) (slice_get nodes k)

    abbrev pub own_nodes : List OwnNode
    own_nodes = map made_at own_places

    module _ (here : a < length nodes) where
      inner-is : (k : ℕ) → Has inner_places k → (a < k) × (k < length nodes) × IsAround nodes styles k a
      inner-is k h =
          let r = from-has is_inside k (a + 1) (length nodes - (a + 1)) h in
          let low = r.0 in
          let high = r.1 in
          (omega (arith, low), omega (arith, low, high), inside-around k r.2)

      is-inner : (k : ℕ) → k < length nodes → IsAround nodes styles k a → Has inner_places k
      is-inner k lt h =
          let above = around-before k a lt h in
          has-from is_inside k (a + 1) (length nodes - (a + 1)) (omega (arith, above)) (omega (arith, above, lt)) (around-inside k lt h)

      rising : Rises own_places
      rising = (all-above a inner_places (λ k h. (inner-is k h).0), rises-from is_inside (a + 1) (length nodes - (a + 1)))

      place-within : (k : ℕ) → Has own_places k → k < length nodes
      place-within k (inl is) = omega (arith, here, is)
      place-within k (inr h) = (inner-is k h).1

      around-at : (i : ℕ) → 0 < i → i < length own_places → IsAround nodes styles (slice_index own_places i) a
      around-at zero positive lt = absurd (omega (arith, positive))
      around-at (suc i) positive lt = (inner-is (slice_index inner_places i) (has-get inner_places i (omega (arith, lt)))).2

      found : (k : ℕ) → k < length nodes → IsAround nodes styles k a → (i : ℕ) × (i < length own_places) × (slice_index own_places i ≡ k)
      found k lt h = get-has own_places k (inr (is-inner k lt h))

      own-is : (i : ℕ) → i < length own_places → own_at own_nodes i ≡ made_at (slice_index own_places i)
      own-is i lt = get_or-map made_at own_places i 0 no_node lt

      own-made : (k : ℕ) (n : Node) → slice_get nodes k ≡ Some n → IsOwnNode nodes styles k (made_of k (style_at styles k) (Some n))
      own-made k n e = record { node = n; there = e; id = refl; kind = refl; text = refl; style = refl; root = refl }

      made-there : (k : ℕ) → k < length nodes → IsOwnNode nodes styles k (made_at k)
      made-there k lt =
          let g = got nodes k lt in
          subst (λ (o : Option Node). IsOwnNode nodes styles k (made_of k (style_at styles k) o)) (sym g.1) (own-made k g.0 g.1)

      made-parent : (k : ℕ) → k < length nodes → (made_at k).parent ≡ number own_places (parent_of nodes k)
      made-parent k lt = let g = got nodes k lt in ap (λ (o : Option Node). (made_of k (style_at styles k) o).parent) g.1

      parent-own : (k : ℕ) → k < length nodes → IsAround nodes styles k a → Has own_places (parent_of nodes k)
      parent-own k lt h = by k a lt h refl
        where
          by : (k b : ℕ) → k < length nodes → IsAround nodes styles k b → b ≡ a → Has own_places (parent_of nodes k)
          by _ _ lt (parent k positive e) is = inl (sym is)
          by _ _ lt (further k b positive e above) is =
              let before = parent-before k positive lt in
              inr (is-inner (parent_of nodes k) (omega (arith, before, lt)) (subst (IsAround nodes styles (parent_of nodes k)) is above))

      parent-at : (i : ℕ) → 0 < i → i < length own_places
          → ((own_at own_nodes i).parent < length own_places) × (slice_index own_places (own_at own_nodes i).parent ≡ parent_of nodes (slice_index own_places i))
      parent-at i positive lt =
          let k : ℕ = slice_index own_places i in
          let k_in = place-within k (has-get own_places i lt) in
          let e : (own_at own_nodes i).parent ≡ number own_places (parent_of nodes k) = ap (λ (o : OwnNode). o.parent) (own-is i lt) ∙ made-parent k k_in in
          let r = number-is own_places (parent_of nodes k) (parent-own k k_in (around-at i positive lt)) in
          ((let low = r.0 in omega (arith, low, e)), ap (λ (j : ℕ). slice_index own_places j) e ∙ r.1)

      pub are-own : AreOwnNodes nodes styles a own_places own_nodes
      are-own = record {
        count = length-own made_at own_places;
        some = omega arith;
        first = refl;
        rising = rises-get own_places rising;
        around = around-at;
        all = found;
        each = λ i lt. subst (IsOwnNode nodes styles (slice_index own_places i)) (sym (own-is i lt)) (made-there (slice_index own_places i) (place-within (slice_index own_places i) (has-get own_places i lt)));
        parent = parent-at;
      }
