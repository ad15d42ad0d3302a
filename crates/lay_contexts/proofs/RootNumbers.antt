-- The numbers of roots: each formatting context has the number of one root, and a later root has a higher number.
use Rattle.std.proofs.Common.{◌≡◌, ℕ, zero, suc, ◌+◌, ◌-◌, ◌<◌, ◌≤◌, Bool, true, false, List, length, refl, arith, inl, inr}
use Rattle.std.proofs.lemmas.Bool.{cases_lt}
use Rattle.lay_box_tree.specs.declared.box_tree.BoxNode.{BoxNode}
use Rattle.lay_contexts.specs.Contexts.{Context, boxes_in}
use Rattle.lay_contexts.specs.FormattingContextList.{first_number, number_of, roots_before}
use Rattle.lay_contexts.specs.Homes.{is_root}

pub roots_yes : (boxes : List BoxNode) (n : ℕ) → is_root boxes n ≡ true → roots_before boxes (suc n) ≡ roots_before boxes n + 1
roots_yes boxes n e = rw e refl

pub roots_no : (boxes : List BoxNode) (n : ℕ) → is_root boxes n ≡ false → roots_before boxes (suc n) ≡ roots_before boxes n
roots_no boxes n e = rw e refl

roots_step : (boxes : List BoxNode) (n : ℕ) (b : Bool) → is_root boxes n ≡ b → roots_before boxes n ≤ roots_before boxes (suc n)
roots_step boxes n true e = omega (arith, roots_yes boxes n e)
roots_step boxes n false e = omega (arith, roots_no boxes n e)

roots_above : (boxes : List BoxNode) (d j k : ℕ) → d + j ≡ k → roots_before boxes j ≤ roots_before boxes k
roots_above boxes zero j k e = (let q : k ≡ j = omega (arith, e) in rw q (omega arith))
roots_above boxes (suc d) j zero e = absurd (omega (arith, e))
roots_above boxes (suc d) j (suc k) e = (let a = roots_above boxes d j k (omega (arith, e)) in let s = roots_step boxes k (is_root boxes k) refl in omega (arith, a, s))

pub roots_le : (boxes : List BoxNode) (j k : ℕ) → j ≤ k → roots_before boxes j ≤ roots_before boxes k
roots_le boxes j k le = roots_above boxes (k - j) j k (omega (arith, le))

pub roots_lt : (boxes : List BoxNode) (j k : ℕ) → is_root boxes j ≡ true → j < k → roots_before boxes j < roots_before boxes k
roots_lt boxes j k e lt = (let a = roots_le boxes (suc j) k (omega (arith, lt)) in omega (arith, a, roots_yes boxes j e))

-- where there is one root in all it is the own box
pub one_root : (boxes : List BoxNode) → roots_before boxes (length boxes) ≤ 1 → (k : ℕ) → 0 < k → k < length boxes → is_root boxes k ≡ true → ⊥
one_root boxes few k positive lt e =
    let first = roots_lt boxes 0 k refl positive in
    let last = roots_lt boxes k (length boxes) e lt in
    omega (arith, few, first, last)

-- the root before n that so many roots stand before
record Root (boxes : List BoxNode) (n m : ℕ) : Type 0 where
  place : ℕ
  before : place < n
  root : is_root boxes place ≡ true
  number : roots_before boxes place ≡ m

further : (boxes : List BoxNode) (n m : ℕ) → Root boxes n m → Root boxes (suc n) m
further boxes n m r = record { place = r.place; before = (let b = r.before in omega (arith, b)); root = r.root; number = r.number }

last_root : (boxes : List BoxNode) (n m : ℕ) (b : Bool) → is_root boxes n ≡ b → m < roots_before boxes (suc n) → roots_before boxes n ≤ m → Root boxes (suc n) m
last_root boxes n m true e lt high = record { place = n; before = omega arith; root = e; number = omega (arith, lt, high, roots_yes boxes n e) }
last_root boxes n m false e lt high = absurd (omega (arith, lt, high, roots_no boxes n e))

root_there : (boxes : List BoxNode) (n m : ℕ) → m < roots_before boxes n → Root boxes n m
root_there boxes zero m lt = absurd (omega (arith, lt))
root_there boxes (suc n) m lt = elim (cases_lt m (roots_before boxes n)) [
  | inl low ↦ further boxes n m (root_there boxes n m low)
  | inr high ↦ last_root boxes n m (is_root boxes n) refl lt high
]

module _ (contexts : List Context) where
  first_above : (d i j : ℕ) → d + i ≡ j → first_number contexts i ≤ first_number contexts j
  first_above zero i j e = (let q : j ≡ i = omega (arith, e) in rw q (omega arith))
  first_above (suc d) i zero e = absurd (omega (arith, e))
  first_above (suc d) i (suc j) e = (let a = first_above d i j (omega (arith, e)) in omega (arith, a))

  pub first_le : (i j : ℕ) → i ≤ j → first_number contexts i ≤ first_number contexts j
  first_le i j le = first_above (j - i) i j (omega (arith, le))

  -- the roots of a context have numbers below those of the next ones
  pub number_lt : (i j r : ℕ) → i < j → r < length (boxes_in contexts i) → is_root (boxes_in contexts i) r ≡ true → number_of contexts i r < first_number contexts j
  number_lt i j r less lt root =
      let a = first_le (suc i) j (omega (arith, less)) in
      let b = roots_lt (boxes_in contexts i) r (length (boxes_in contexts i)) root lt in
      omega (arith, a, b)

  -- the root with this number
  pub record Numbered (n m : ℕ) : Type 0 where
    pub context : ℕ
    pub place : ℕ
    pub before : context < n
    pub inside : place < length (boxes_in contexts context)
    pub root : is_root (boxes_in contexts context) place ≡ true
    pub number : number_of contexts context place ≡ m

  pub numbered : (n m : ℕ) → m < first_number contexts n → Numbered n m
  numbered zero m lt = absurd (omega (arith, lt))
  numbered (suc n) m lt = elim (cases_lt m (first_number contexts n)) [
    | inl low ↦ (let r = numbered n m low in
        record { context = r.context; place = r.place; before = (let b = r.before in omega (arith, b)); inside = r.inside; root = r.root; number = r.number })
    | inr high ↦ (let boxes : List BoxNode = boxes_in contexts n in
        let r = root_there boxes (length boxes) (m - first_number contexts n) (omega (arith, lt, high)) in
        record { context = n; place = r.place; before = omega arith; inside = r.before; root = r.root; number = (let e = r.number in omega (arith, e, high)) })
  ]
