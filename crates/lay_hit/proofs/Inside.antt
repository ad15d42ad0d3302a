-- What is in a node, by any numbers that say of each node the one around it.
use Rattle.std.proofs.Common.{◌≡◌, ℕ, zero, suc, ◌<◌, ◌≤◌, ◌⊎◌, inl, inr, Bool, true, false, cond, refl, sym, subst, arith}
use Rattle.std.proofs.lemmas.Bool.{cases_eq}
use Rattle.lay_hit.specs.Groups.{nearest, nearest_around}
use Rattle.lay_hit.specs.Stacking.{IsIn, itself, inner}

module _ (parent : ℕ → ℕ) where
  -- of two that hold one node, one holds the other
  pub either_in : (j k a : ℕ) → IsIn parent j a → IsIn parent k a → IsIn parent j k ⊎ IsIn parent k j
  either_in j k a itself q = inr q
  either_in j k a (inner m some p) itself = inl (inner m some p)
  either_in j k a (inner m some p) (inner n low q) = either_in j k (parent m) p q

  pub in_through : (j k a : ℕ) → IsIn parent j k → IsIn parent k a → IsIn parent j a
  in_through j k a p itself = p
  in_through j k a p (inner m some q) = inner m some (in_through j k (parent m) p q)

  -- the node directly in j that holds another one of it
  pub record IsPart (j a : ℕ) : Type 0 where
    pub part : ℕ
    pub some : 0 < part
    pub of_it : parent part ≡ j
    pub holds : IsIn parent part a

  pub part_of : (j a : ℕ) → (a ≡ j → ⊥) → IsIn parent j a → IsPart j a
  part_of j a other itself = absurd (other refl)
  part_of j a other (inner m some p) = by_eq (λ o. part_of j (parent m) o p) (cases_eq (parent m) j)
    where
      by_eq : ((parent m ≡ j → ⊥) → IsPart j (parent m)) → (parent m ≡ j) ⊎ (parent m ≡ j → ⊥) → IsPart j m
      by_eq rest (inl same) = record { part = m; some = some; of_it = same; holds = itself }
      by_eq rest (inr o) = let r = rest o in record { part = r.part; some = r.some; of_it = r.of_it; holds = inner m some r.holds }

  -- what is in a node but isn't that node is in it by the node around
  pub outer : (j a : ℕ) → (a ≡ j → ⊥) → IsIn parent j a → (0 < a) × IsIn parent j (parent a)
  outer j a other itself = absurd (other refl)
  outer j a other (inner m some p) = (some, p)

  module _ (before : (k : ℕ) → 0 < k → parent k < k) where
    pub stands_behind : (j a : ℕ) → IsIn parent j a → j ≤ a
    stands_behind j a itself = omega arith
    stands_behind j a (inner m some p) = let h = stands_behind j (parent m) p in let b = before m some in omega (arith, h, b)

    -- all nodes are in the first one
    in_first : (n a : ℕ) → a ≤ n → IsIn parent 0 a
    in_first n zero low = itself
    in_first zero (suc a) low = absurd (omega (arith, low))
    in_first (suc n) (suc a) low = let b = before (suc a) (omega arith) in inner (suc a) (omega arith) (in_first n (parent (suc a)) (omega (arith, b, low)))

    pub in_root : (a : ℕ) → IsIn parent 0 a
    in_root a = in_first a a (omega arith)

    module _ (counts : ℕ → Bool) (root : counts 0 ≡ true) where
      -- the nearest that counts is around the node, and in each that counts around it
      near : (t k : ℕ) → k ≤ t → IsIn parent (nearest counts parent t k) k
      near zero k low = itself
      near (suc t) zero low = subst (λ b. IsIn parent (cond b 0 (nearest counts parent t (parent 0))) 0) (sym root) itself
      near (suc t) (suc k) low =
          let b = before (suc k) (omega arith) in by_test (near t (parent (suc k)) (omega (arith, b, low))) (counts (suc k))
        where
          by_test : IsIn parent (nearest counts parent t (parent (suc k))) (parent (suc k)) → (b : Bool) →
              IsIn parent (cond b (suc k) (nearest counts parent t (parent (suc k)))) (suc k)
          by_test rest true = itself
          by_test rest false = inner (suc k) (omega arith) rest

      nearer : (t k : ℕ) → k ≤ t → (m : ℕ) → IsIn parent m k → counts m ≡ true → IsIn parent m (nearest counts parent t k)
      nearer zero k low m p is = p
      nearer (suc t) k low m itself is = subst (λ b. IsIn parent m (cond b m (nearest counts parent t (parent m)))) (sym is) itself
      nearer (suc t) k low m (inner n some q) is =
          let b = before n some in by_test (nearer t (parent n) (omega (arith, b, low)) m q is) (counts n)
        where
          by_test : IsIn parent m (nearest counts parent t (parent n)) → (b : Bool) → IsIn parent m (cond b n (nearest counts parent t (parent n)))
          by_test rest true = inner n some q
          by_test rest false = rest

      pub around_in : (k : ℕ) → IsIn parent (nearest_around counts parent k) (parent k)
      around_in k = near (parent k) (parent k) (omega arith)

      pub in_around : (k m : ℕ) → IsIn parent m (parent k) → counts m ≡ true → IsIn parent m (nearest_around counts parent k)
      in_around k m p is = nearer (parent k) (parent k) (omega arith) m p is
