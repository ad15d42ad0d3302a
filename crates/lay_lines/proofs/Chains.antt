-- Chains of steps.
use Rattle.std.proofs.Common.{◌≡◌, ◌∙◌, inl, inr, ℕ, zero, suc, ◌+◌, ◌<◌, List, [], ◌++◌, refl, sym, ap, subst, arith, add-one}
use Rattle.std.proofs.lemmas.Bool.{cases_lt}
use Rattle.std.proofs.lemmas.List.{append-nil, append_assoc}
use Rattle.lay_floats.specs.declared.placed.Placed.{Placed}
use Rattle.lay_lines.specs.Meeting.{Chain, IsFront}

-- one more step
pub chain_more : {S : Type 0} (Step : ℕ → S → S → Type 0) (k : ℕ) (a b c : S) → Chain Step k a b → Step k b c → Chain Step (k + 1) a c
chain_more Step k a b c so_far step = subst (λ (n : ℕ). Chain Step n a c) (sym (add-one k)) (b, so_far, step)

-- where each step has one outcome, a chain has
pub chain_one : {S : Type 0} (Step : ℕ → S → S → Type 0) → ((k : ℕ) (a b c : S) → Step k a b → Step k a c → b ≡ c) → (n : ℕ) (a b c : S) → Chain Step n a b → Chain Step n a c → b ≡ c
chain_one Step one zero a b c p q = p ∙ sym q
chain_one {S} Step one (suc n) a b c p q =
    let e = chain_one Step one n a p.0 q.0 p.1 q.1 in
    one n p.0 b c p.2 (subst (λ (s : S). Step n s c) (sym e) q.2)

-- what one more than a front of a chain does
pub chain_front : {S : Type 0} (Step : ℕ → S → S → Type 0) (n k : ℕ) (a b : S) → k < n → Chain Step n a b → (mid : S) × (after : S) × Chain Step k a mid × Step k mid after
chain_front Step zero k a b lt c = absurd (omega arith)
chain_front {S} Step (suc n) k a b lt c = elim (cases_lt k n) [
  | inl less ↦ chain_front Step n k a c.0 less c.1
  | inr least ↦ (let e : n ≡ k = omega arith in subst (λ (m : ℕ). (mid : S) × (after : S) × Chain Step m a mid × Step m mid after) e (c.0, b, c.1, c.2))
]

pub all_front : (a b : List Placed) → a ≡ b → IsFront a b
all_front a b e = ([], sym e ∙ sym (append-nil a))

pub front_trans : (a b c : List Placed) → IsFront a b → IsFront b c → IsFront a c
front_trans a b c p q = (p.0 ++ q.0, q.1 ∙ ap (λ (xs : List Placed). xs ++ q.0) p.1 ∙ append_assoc a p.0 q.0)

-- a chain whose steps keep what stands, cut at a step
pub chain_cut : {S : Type 0} (at : S → List Placed) (Step : ℕ → S → S → Type 0) → ((k : ℕ) (a b : S) → Step k a b → IsFront (at a) (at b)) → (n k : ℕ) (a b : S) → k < n → Chain Step n a b
    → (mid : S) × (next : S) × Chain Step k a mid × Step k mid next × IsFront (at next) (at b)
chain_cut at Step keeps zero k a b lt c = absurd (omega arith)
chain_cut {S} at Step keeps (suc n) k a b lt c = elim (cases_lt k n) [
  | inl less ↦ (let w = chain_cut at Step keeps n k a c.0 less c.1 in (w.0, w.1, w.2, w.3, front_trans _ _ _ w.4 (keeps n c.0 b c.2)))
  | inr least ↦ (let e : n ≡ k = omega arith in subst (λ (m : ℕ). (mid : S) × (next : S) × Chain Step m a mid × Step m mid next × IsFront (at next) (at b)) e (c.0, b, c.1, c.2, all_front (at b) (at b) refl))
]

pub chain_keeps : {S : Type 0} (at : S → List Placed) (Step : ℕ → S → S → Type 0) → ((k : ℕ) (a b : S) → Step k a b → IsFront (at a) (at b)) → (n : ℕ) (a b : S) → Chain Step n a b → IsFront (at a) (at b)
chain_keeps at Step keeps zero a b c = all_front _ _ (sym (ap at c))
chain_keeps at Step keeps (suc n) a b c = front_trans _ _ _ (chain_keeps at Step keeps n a c.0 c.1) (keeps n c.0 b c.2)
