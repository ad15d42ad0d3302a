-- The nearest node at or around one that counts. Parents stand before their children, and the root counts.
use Rattle.std.proofs.Common.{◌≡◌, ℕ, zero, suc, ◌<◌, ◌≤◌, Bool, true, false, cond, refl, sym, ap, ◌∙◌, arith}
use Rattle.lay_hit.specs.Groups.{nearest, nearest_at, nearest_around}

module _ (counts : ℕ → Bool) (parent : ℕ → ℕ) (root : counts 0 ≡ true) (before : (k : ℕ) → 0 < k → parent k < k) where
  same_at_root : (t : ℕ) → nearest counts parent t 0 ≡ 0
  same_at_root zero = refl
  same_at_root (suc t) = ap (λ (b : Bool). cond b 0 (nearest counts parent t (parent 0))) root

  -- how many turns there are doesn't matter, where there are enough
  pub same_turns : (t u k : ℕ) → k ≤ t → k ≤ u → nearest counts parent t k ≡ nearest counts parent u k
  same_turns t u zero some more = same_at_root t ∙ sym (same_at_root u)
  same_turns zero u (suc k) some more = absurd (omega arith)
  same_turns (suc t) zero (suc k) some more = absurd (omega arith)
  same_turns (suc t) (suc u) (suc k) some more =
      let less = before (suc k) (omega arith) in
      ap (λ (n : ℕ). cond (counts (suc k)) (suc k) n) (same_turns t u (parent (suc k)) (omega arith) (omega arith))

  -- a node that counts is its own, and another has that of its parent
  pub nearest-parent : (k : ℕ) → 0 < k → nearest_at counts parent k ≡ cond (counts k) k (nearest_at counts parent (parent k))
  nearest-parent zero some = absurd (omega arith)
  nearest-parent (suc k) some =
      let less = before (suc k) (omega arith) in
      ap (λ (n : ℕ). cond (counts (suc k)) (suc k) n) (same_turns k (parent (suc k)) (parent (suc k)) (omega arith) (omega arith))

  -- it counts, and stands no later
  nearest-counts : (t k : ℕ) → k ≤ t → counts (nearest counts parent t k) ≡ true
  nearest-counts t zero some = ap counts (same_at_root t) ∙ root
  nearest-counts zero (suc k) some = absurd (omega arith)
  nearest-counts (suc t) (suc k) some =
      let less = before (suc k) (omega arith) in
      by_test (counts (suc k)) refl (nearest-counts t (parent (suc k)) (omega arith))
    where
      by_test : (b : Bool) → counts (suc k) ≡ b → counts (nearest counts parent t (parent (suc k))) ≡ true → counts (cond b (suc k) (nearest counts parent t (parent (suc k)))) ≡ true
      by_test true is outer = is
      by_test false is outer = outer

  pub nearest-low : (t k : ℕ) → nearest counts parent t k ≤ k
  nearest-low t zero = let e = same_at_root t in omega (arith, e)
  nearest-low zero (suc k) = omega arith
  nearest-low (suc t) (suc k) =
      let less = before (suc k) (omega arith) in
      by_test (counts (suc k)) (nearest-low t (parent (suc k)))
    where
      by_test : (b : Bool) → nearest counts parent t (parent (suc k)) ≤ parent (suc k) → cond b (suc k) (nearest counts parent t (parent (suc k))) ≤ suc k
      by_test true outer = omega arith
      by_test false outer = let less = before (suc k) (omega arith) in omega arith

  pub around-counts : (k : ℕ) → counts (nearest_around counts parent k) ≡ true
  around-counts k = nearest-counts (parent k) (parent k) (omega arith)

  pub around-before : (k : ℕ) → 0 < k → nearest_around counts parent k < k
  around-before k some =
      let low = nearest-low (parent k) (parent k) in
      let less = before k some in
      omega arith
