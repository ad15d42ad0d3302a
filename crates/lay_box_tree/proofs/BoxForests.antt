-- The parents of boxes in trees that stand one behind the other.
use Rattle.std.proofs.Common.{◌≡◌, ◌⊎◌, ℕ, zero, suc, ◌+◌, ◌-◌, ◌<◌, ◌≤◌, List, [], ◌∷◌, ◌++◌, length, get_or, refl, ap, arith, inl, inr, length-append}
use Rattle.std.proofs.lemmas.Bool.{cases_lt}
use Rattle.std.proofs.lemmas.Grind.{elements}
use Rattle.lay_doc.specs.Tree.{IsTree}
use Rattle.lay_box_tree.specs.BoxColumns.{box_parents}
use Rattle.lay_box_tree.specs.declared.box_tree.BoxNode.{BoxNode}

-- the parents of boxes from the place `at` on, in trees below the box at `parent`
pub record IsForest (parent at : ℕ) (us : List ℕ) : Type 0 where
  pub near : (i : ℕ) → i < length us → (get_or us i 0 ≡ parent) ⊎ ((at ≤ get_or us i 0) × (get_or us i 0 < at + i))
  pub together : (i j : ℕ) → i < j → j < length us → get_or us j 0 < at + i → get_or us j 0 ≤ get_or us i 0

-- a parent stands at `parent` or from `at` on
from_parent : (parent at : ℕ) (us : List ℕ) → parent ≤ at → IsForest parent at us → (i : ℕ) → i < length us → parent ≤ get_or us i 0
from_parent parent at us le forest i lt = elim (forest.near i lt) [
  | inl e ↦ omega (arith, e)
  | inr b ↦ omega (arith, b.0)
]

pub read_left : (xs ys : List ℕ) (i : ℕ) → i < length xs → get_or (xs ++ ys) i 0 ≡ get_or xs i 0
read_left xs ys i lt = grind (arith, elements)

pub read_right : (xs ys : List ℕ) (i m : ℕ) → i ≡ length xs + m → get_or (xs ++ ys) i 0 ≡ get_or ys m 0
read_right xs ys i m e = grind (arith, elements)

-- trees behind trees
pub append : (parent at : ℕ) (xs ys : List ℕ) → parent ≤ at → IsForest parent at xs → IsForest parent (at + length xs) ys → IsForest parent at (xs ++ ys)
append parent at xs ys le first second = record { near = near; together = together }
  where
    near : (i : ℕ) → i < length (xs ++ ys) → (get_or (xs ++ ys) i 0 ≡ parent) ⊎ ((at ≤ get_or (xs ++ ys) i 0) × (get_or (xs ++ ys) i 0 < at + i))
    near i lt = elim (cases_lt i (length xs)) [
      | inl low ↦ (let e = read_left xs ys i low in rw e (first.near i low))
      | inr high ↦ (let e = read_right xs ys i (i - length xs) (omega arith) in
          rw e (elim (second.near (i - length xs) (omega (arith, length-append xs ys))) [
            | inl p ↦ inl p
            | inr b ↦ inr (omega (arith, b.0), omega (arith, b.1))
          ]))
    ]

    together : (i j : ℕ) → i < j → j < length (xs ++ ys) → get_or (xs ++ ys) j 0 < at + i → get_or (xs ++ ys) j 0 ≤ get_or (xs ++ ys) i 0
    together i j lt within below = elim (cases_lt j (length xs)) [
      | inl low ↦ (let e = read_left xs ys j low in let f = read_left xs ys i (omega arith) in rw (e, f) (first.together i j lt low (omega (arith, e, below))))
      | inr high ↦ (let e = read_right xs ys j (j - length xs) (omega arith) in
          let m : j - length xs < length ys = omega (arith, length-append xs ys) in
          elim (cases_lt i (length xs)) [
            | inl left ↦ (let f = read_left xs ys i left in
                let least = from_parent parent at xs le first i left in
                rw (e, f) (elim (second.near (j - length xs) m) [
                  | inl p ↦ omega (arith, p, least)
                  | inr b ↦ omega (arith, b.0, e, below)
                ]))
            | inr right ↦ (let f = read_right xs ys i (i - length xs) (omega arith) in
                rw (e, f) (second.together (i - length xs) (j - length xs) (omega arith) m (omega (arith, e, below))))
          ])
    ]

-- a box with trees below it
pub grow : (parent at : ℕ) (cs : List ℕ) → IsForest at (at + 1) cs → IsForest parent at (parent ∷ cs)
grow parent at cs below = record { near = near; together = together }
  where
    near : (i : ℕ) → i < length (parent ∷ cs) → (get_or (parent ∷ cs) i 0 ≡ parent) ⊎ ((at ≤ get_or (parent ∷ cs) i 0) × (get_or (parent ∷ cs) i 0 < at + i))
    near zero lt = inl refl
    near (suc i) lt = inr (elim (below.near i (omega arith)) [
      | inl e ↦ (omega (arith, e), omega (arith, e))
      | inr b ↦ (omega (arith, b.0), omega (arith, b.1))
    ])

    together : (i j : ℕ) → i < j → j < length (parent ∷ cs) → get_or (parent ∷ cs) j 0 < at + i → get_or (parent ∷ cs) j 0 ≤ get_or (parent ∷ cs) i 0
    together i zero lt within over = absurd (omega arith)
    together zero (suc j) lt within over = absurd (elim (below.near j (omega arith)) [
      | inl e ↦ omega (arith, e, over)
      | inr b ↦ omega (arith, b.0, over)
    ])
    together (suc i) (suc j) lt within over = below.together i j (omega arith) (omega arith) (omega (arith, over))

pub none : (parent at : ℕ) → IsForest parent at []
none parent at = record { near = λ i lt. absurd (omega arith); together = λ i j lt within over. absurd (omega arith) }

pub parents-append : (xs ys : List BoxNode) → box_parents (xs ++ ys) ≡ box_parents xs ++ box_parents ys
parents-append [] ys = refl
parents-append (x ∷ xs) ys = ap (λ (us : List ℕ). x.parent ∷ us) (parents-append xs ys)

pub length-parents : (xs : List BoxNode) → length (box_parents xs) ≡ length xs
length-parents [] = refl
length-parents (x ∷ xs) = let e = length-parents xs in omega (arith, e)

-- trees below the box at 0, from the place 0 on, are a tree
pub whole : (us : List ℕ) → IsForest 0 0 us → IsTree us
whole us forest = record {
  root = root us forest;
  before = λ k positive lt. elim (forest.near k lt) [
    | inl e ↦ omega (arith, e)
    | inr b ↦ omega (arith, b.1)
  ];
  together = λ j k lt within below. forest.together j k lt within (omega (arith, below));
}
  where
    root : (us : List ℕ) → IsForest 0 0 us → get_or us 0 0 ≡ 0
    root [] forest = refl
    root (u ∷ us) forest = elim (forest.near 0 (omega arith)) [
      | inl e ↦ e
      | inr b ↦ absurd (omega (arith, b.1))
    ]
