-- The nearest contexts of one node after the other, and the contexts that are flagged through them.
use Rattle.std.proofs.Common.{◌≡◌, inl, inr, ℕ, ◌+◌, ◌<◌, ◌≤◌, Bool, true, false, List, [], ◌∷◌, ◌++◌, length, ap, sym, subst, ◌∙◌, arith, slice_index}
use Rattle.std.proofs.lemmas.Bool.{cases_lt}
use Rattle.std.proofs.lemmas.Grind.{elements}
use Rattle.lay_style.specs.declared.style.Style.{Style}
use Rattle.lay_doc.specs.declared.node.Node.{Node}
use Rattle.lay_doc.specs.Document.{parents_of}
use Rattle.lay_doc.specs.Tree.{IsTree}
use Rattle.lay_after_edits.proofs.Cited.{context_within, length-parents, marked-true}
use Rattle.lay_boxgen.specs.Contexts.{box_at, is_marked}
use Rattle.lay_contexts.specs.ContextTree.{IsAround, parent_of}
use Rattle.lay_contexts.specs.ListedContexts.{AreContextPlaces}
use Rattle.lay_after_edits.specs.Contexts.Links.{is_made}
use Rattle.lay_after_edits.specs.Contexts.Marks.{Marks}
use Rattle.lay_after_edits.specs.Contexts.Near.{ArePassed, AreNearTo, AreReached, AreReachedTo, IsNoPlace, MarksNearest}
use Rattle.lay_after_edits.proofs.ContextsLemmas.Climbing.{above-root, one-step, same-number}
use Rattle.lay_after_edits.proofs.ContextsLemmas.ElementPlaces.{at-before, at-last}
use Rattle.lay_after_edits.proofs.ContextsLemmas.Flags.{is-false, mark-keeps, no-flag}

module _ (nodes : List Node) (styles : List Style) (places : List ℕ) (are : AreContextPlaces nodes styles places) where
  pub passed-own : (next k : ℕ) → ArePassed places next k → next < length places → slice_index places next ≡ k → ArePassed places (next + 1) (k + 1)
  passed-own next k passed lt at = record {
    within = omega (arith, lt);
    before = λ i less. elim (cases_lt i next) [
      | inl low ↦ (let b = passed.before i low in omega (arith, b))
      | inr high ↦ (let z : i ≡ next = omega (arith, less, high) in let e : slice_index places i ≡ k = ap (slice_index places) z ∙ at in omega (arith, e))
    ];
    from = λ i high here. (let r = are.rising next i (omega (arith, high)) here in omega (arith, r, at));
  }

  apart : (next k i : ℕ) → ArePassed places next k → (next < length places → slice_index places next ≡ k → ⊥) → next ≤ i → i < length places → slice_index places i ≡ k → ⊥
  apart next k i passed other high here at = elim (cases_lt next i) [
    | inl less ↦ (let r = are.rising next i less here in let f = passed.from next (omega (arith, high)) (omega (arith, high, here)) in omega (arith, r, f, at))
    | inr same ↦ (let z : next ≡ i = omega (arith, high, same) in other (omega (arith, z, here)) (ap (slice_index places) z ∙ at))
  ]

  pub passed-on : (next k : ℕ) → ArePassed places next k → (next < length places → slice_index places next ≡ k → ⊥) → ArePassed places next (k + 1)
  passed-on next k passed other = record {
    within = passed.within;
    before = λ i less. (let b = passed.before i less in omega (arith, b));
    from = λ i high here. elim (cases_lt k (slice_index places i)) [
      | inl over ↦ omega (arith, over)
      | inr under ↦ absurd (apart next k i passed other high here (let f = passed.from i high here in omega (arith, f, under)))
    ];
  }

  pub no-place : (next k : ℕ) → ArePassed places next k → (next < length places → slice_index places next ≡ k → ⊥) → IsNoPlace places k
  no-place next k passed other j here at = elim (cases_lt j next) [
    | inl low ↦ (let b = passed.before j low in omega (arith, b, at))
    | inr high ↦ apart next k j passed other high here at
  ]

  -- a node whose parent isn't the element of the context around it has none there
  unmarked-place : (k : ℕ) → is_marked (box_at nodes styles k) ≡ false → IsNoPlace places k
  unmarked-place k unmarked j here at =
      let m : is_marked (box_at nodes styles (slice_index places j)) ≡ true = marked-true (is_marked (box_at nodes styles (slice_index places j))) (are.are j here).establishes in
      absurd (let z : true ≡ false = sym m ∙ (ap (λ (n : ℕ). is_marked (box_at nodes styles n)) at ∙ unmarked) in cc)

  pub near-parent : (near : List ℕ) (n k i : ℕ) → AreNearTo nodes styles places near n → parent_of nodes k < n → i < length places → IsAround nodes styles k (slice_index places i)
      → slice_index near (parent_of nodes k) ≡ i
  near-parent near n k i known up here around = elim (one-step nodes styles k (slice_index places i) around) [
    | inl is ↦ ap (slice_index near) (sym is) ∙ known.own i here (omega (arith, is, up))
    | inr more ↦ known.around (parent_of nodes k) i up (unmarked-place (parent_of nodes k) more.0) here more.1
  ]

  pub near-own : (near : List ℕ) (next k : ℕ) → AreNearTo nodes styles places near k → next < length places → slice_index places next ≡ k
      → AreNearTo nodes styles places (near ++ next ∷ []) (k + 1)
  near-own near next k known lt at = record {
    count = grind (arith, elements, known.count);
    own = λ i here less. elim (cases_lt (slice_index places i) k) [
      | inl low ↦ at-before near next (slice_index places i) (omega (arith, low, known.count)) ∙ known.own i here low
      | inr high ↦ (let z : slice_index places i ≡ k = omega (arith, less, high) in
          at-last near next (slice_index places i) (omega (arith, z, known.count)) ∙ same-number nodes styles places are next i lt here (at ∙ sym z))
    ];
    around = λ j i less none here around. elim (cases_lt j k) [
      | inl low ↦ at-before near next j (omega (arith, low, known.count)) ∙ known.around j i low none here around
      | inr high ↦ absurd (let z : j ≡ k = omega (arith, less, high) in none next lt (at ∙ sym z))
    ];
  }

  pub near-above : (near : List ℕ) (up k : ℕ) → IsTree (parents_of nodes) → k < length nodes → AreNearTo nodes styles places near k → IsNoPlace places k
      → (0 < k → up ≡ slice_index near (parent_of nodes k)) → AreNearTo nodes styles places (near ++ up ∷ []) (k + 1)
  near-above near up k tree within known none up-is = record {
    count = grind (arith, elements, known.count);
    own = λ i here less. elim (cases_lt (slice_index places i) k) [
      | inl low ↦ at-before near up (slice_index places i) (omega (arith, low, known.count)) ∙ known.own i here low
      | inr high ↦ absurd (none i here (omega (arith, less, high)))
    ];
    around = λ j i less other here around. elim (cases_lt j k) [
      | inl low ↦ at-before near up j (omega (arith, low, known.count)) ∙ known.around j i low other here around
      | inr high ↦ (let z : j ≡ k = omega (arith, less, high) in
          let around-k : IsAround nodes styles k (slice_index places i) = subst (λ (m : ℕ). IsAround nodes styles m (slice_index places i)) z around in
          let positive = above-root nodes styles k (slice_index places i) around-k in
          at-last near up j (omega (arith, z, known.count))
          ∙ (up-is positive ∙ near-parent near k k i known (tree.before k positive (omega (arith, within, length-parents nodes))) here around-k))
    ];
  }

  -- a context without a flag has none of the flagged nodes
  pub reached-known : (near : List ℕ) (made reached : List Bool) (n : ℕ) → n ≡ length nodes → IsTree (parents_of nodes) → length reached ≡ length places
      → AreNearTo nodes styles places near (length nodes) → AreReachedTo nodes near made reached n → AreReached nodes styles places made reached
  reached-known near made reached n is-n tree count known to = record {
    count = count;
    own = λ i here unflagged. is-false (is_made made (slice_index places i)) (λ flag.
        (let w = context_within nodes styles (slice_index places i) (are.are i here) in
        let nearest : slice_index near (slice_index places i) ≡ i = known.own i here w in
        no-flag (is_made reached i)
        (ap (is_made reached) (sym nearest) ∙ to.own (slice_index places i) (omega (arith, w, is-n)) flag (omega (arith, nearest, here, count))) unflagged));
    around = λ i k here unflagged within around. is-false (is_made made k) (λ flag.
        (let positive = above-root nodes styles k (slice_index places i) around in
        let up = tree.before k positive (omega (arith, within, length-parents nodes)) in
        let nearest = near-parent near (length nodes) k i known (omega (arith, up, within)) here around in
        no-flag (is_made reached i)
        (ap (is_made reached) (sym nearest) ∙ to.around k (omega (arith, within, is-n)) flag (omega (arith, nearest, here, count))) unflagged));
  }

pub parent-within : (nodes : List Node) → IsTree (parents_of nodes) → (k : ℕ) → k < length nodes → parent_of nodes k < length nodes
parent-within nodes tree k lt = elim (cases_lt 0 k) [
  | inl positive ↦ (let b = tree.before k positive (omega (arith, lt, length-parents nodes)) in omega (arith, b, lt))
  | inr low ↦ (let z : k ≡ 0 = omega (arith, low) in let r : parent_of nodes k ≡ 0 = ap (parent_of nodes) z ∙ tree.root in omega (arith, r, lt, z))
]

pub both-marked : (nodes : List Node) (near : List ℕ) (k one other : ℕ) (before between after : List Bool) → Marks one before between → Marks other between after
    → one ≡ slice_index near k → other ≡ slice_index near (parent_of nodes k) → MarksNearest nodes near k before after
both-marked nodes near k one other before between after a b is-one is-other = record {
  as_many = b.as_many ∙ a.as_many;
  own = λ here. mark-keeps other between after b (slice_index near k)
      (ap (is_made between) (sym is-one) ∙ a.here (omega (arith, here, is-one)));
  around = λ here. ap (is_made after) (sym is-other) ∙ b.here (omega (arith, here, is-other, a.as_many));
  kept = λ i flag. mark-keeps other between after b i (mark-keeps one before between a i flag);
}

-- one more node
pub one-nearest : (nodes : List Node) (near : List ℕ) (made before after : List Bool) (k : ℕ) → MarksNearest nodes near k before after → AreReachedTo nodes near made before k
    → AreReachedTo nodes near made after (k + 1)
one-nearest nodes near made before after k m to = record {
  own = λ j less flag here. elim (cases_lt j k) [
    | inl low ↦ m.kept (slice_index near j) (to.own j low flag (omega (arith, here, m.as_many)))
    | inr high ↦ (let z : j ≡ k = omega (arith, less, high) in
        ap (λ (x : ℕ). is_made after (slice_index near x)) z ∙ m.own (let q : slice_index near j ≡ slice_index near k = ap (slice_index near) z in omega (arith, here, m.as_many, q)))
  ];
  around = λ j less flag here. elim (cases_lt j k) [
    | inl low ↦ m.kept (slice_index near (parent_of nodes j)) (to.around j low flag (omega (arith, here, m.as_many)))
    | inr high ↦ (let z : j ≡ k = omega (arith, less, high) in
        ap (λ (x : ℕ). is_made after (slice_index near (parent_of nodes x))) z
        ∙ m.around (let q : slice_index near (parent_of nodes j) ≡ slice_index near (parent_of nodes k) = ap (λ (x : ℕ). slice_index near (parent_of nodes x)) z in omega (arith, here, m.as_many, q)))
  ];
}

pub none-nearest : (nodes : List Node) (near : List ℕ) (made reached : List Bool) (k : ℕ) → is_made made k ≡ false → AreReachedTo nodes near made reached k
    → AreReachedTo nodes near made reached (k + 1)
none-nearest nodes near made reached k unflagged to = record {
  own = λ j less flag here. elim (cases_lt j k) [
    | inl low ↦ to.own j low flag here
    | inr high ↦ absurd (let z : j ≡ k = omega (arith, less, high) in let t : true ≡ false = sym flag ∙ (ap (is_made made) z ∙ unflagged) in cc)
  ];
  around = λ j less flag here. elim (cases_lt j k) [
    | inl low ↦ to.around j low flag here
    | inr high ↦ absurd (let z : j ≡ k = omega (arith, less, high) in let t : true ≡ false = sym flag ∙ (ap (is_made made) z ∙ unflagged) in cc)
  ];
}
