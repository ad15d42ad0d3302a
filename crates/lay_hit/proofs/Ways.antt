-- Where a node waits, as the walk goes on: at the parent of the node that the walk comes to, if it waited at this one and
-- its way doesn't end there, and else where it did.
use Rattle.std.proofs.Common.{◌≡◌, ℕ, zero, suc, ◌+◌, ◌<◌, ◌≤◌, Bool, true, false, cond, ◌||◌, refl, sym, ap, ◌∙◌, arith, inl, inr}
use Rattle.std.proofs.lemmas.Bool.{cases_eq, cases_lt, lt-ltb, le-ltb}
use Rattle.std.specs.Prelude.{nat_lt}
use Rattle.lay_hit.specs.Groups.{nearest, nearest_around}
use Rattle.lay_hit.proofs.Nearest.{nearest-low}

module _ (ends : ℕ → Bool) (parent : ℕ → ℕ) (root : ends 0 ≡ true) (before : (k : ℕ) → 0 < k → parent k < k) where
  abbrev pub stops : ℕ → ℕ → Bool
  stops n j = nat_lt j n || ends j

  -- how the walk's coming to n changes the test at j
  at_low : (n j : ℕ) → j < n → stops n j ≡ true
  at_low n j low = ap (λ (b : Bool). b || ends j) (lt-ltb j n low)

  at_high : (n j : ℕ) → n ≤ j → stops n j ≡ ends j
  at_high n j high = ap (λ (b : Bool). b || ends j) (le-ltb j n high)

  stops_root : (n : ℕ) → stops n 0 ≡ true
  stops_root n = by_test (nat_lt 0 n)
    where
      by_test : (b : Bool) → (b || ends 0) ≡ true
      by_test true = refl
      by_test false = root

  -- it goes on to the parent
  goes : (n t k : ℕ) → 0 < n → k ≤ t → ends n ≡ false → nearest (stops (n + 1)) parent t k ≡ n → nearest (stops n) parent t k ≡ parent n
  goes n zero k some enough through e = let same : k ≡ n = e in absurd (omega (arith, same))
  goes n (suc t) k some enough through e = by_test (λ low is. goes n t (parent k) some low through is) (stops (n + 1) k) refl e
    where
      here : k ≡ n → cond (stops n k) k (nearest (stops n) parent t (parent k)) ≡ parent n
      here same =
          let off : stops n k ≡ false = ap (stops n) same ∙ at_high n n (omega arith) ∙ through in
          ap (λ (b : Bool). cond b k (nearest (stops n) parent t (parent k))) off ∙ ap (λ (j : ℕ). nearest (stops n) parent t (parent j)) same ∙ ends_there t
        where
          ends_there : (u : ℕ) → nearest (stops n) parent u (parent n) ≡ parent n
          ends_there zero = refl
          ends_there (suc u) = ap (λ (b : Bool). cond b (parent n) (nearest (stops n) parent u (parent (parent n)))) (at_low n (parent n) (before n some))

      further : (parent k ≤ t → nearest (stops (n + 1)) parent t (parent k) ≡ n → nearest (stops n) parent t (parent k) ≡ parent n) → stops (n + 1) k ≡ false → nearest (stops (n + 1)) parent t (parent k) ≡ n → cond (stops n k) k (nearest (stops n) parent t (parent k)) ≡ parent n
      further rest off is = elim (cases_lt k (n + 1)) [
        | inl low ↦ absurd (let on = at_low (n + 1) k low in both_values on off)
        | inr high ↦ (let less = before k (omega (arith, high)) in
            let also : stops n k ≡ false = at_high n k (omega (arith, high)) ∙ sym (at_high (n + 1) k high) ∙ off in
            ap (λ (b : Bool). cond b k (nearest (stops n) parent t (parent k))) also ∙ rest (omega (arith, less, enough)) is)
      ]
        where
          both_values : {b : Bool} → b ≡ true → b ≡ false → ⊥
          both_values on off = cc

      by_test : (parent k ≤ t → nearest (stops (n + 1)) parent t (parent k) ≡ n → nearest (stops n) parent t (parent k) ≡ parent n)
          → (b : Bool) → stops (n + 1) k ≡ b → cond b k (nearest (stops (n + 1)) parent t (parent k)) ≡ n → cond (stops n k) k (nearest (stops n) parent t (parent k)) ≡ parent n
      by_test rest true on is = here is
      by_test rest false off is = further rest off is

  -- or stays where it is
  stays : (n t k : ℕ) → k ≤ t → (nearest (stops (n + 1)) parent t k ≡ n → ends n ≡ true) → nearest (stops n) parent t k ≡ nearest (stops (n + 1)) parent t k
  stays n zero k enough closed = refl
  stays n (suc t) k enough closed = by_test (λ low. stays n t (parent k) low) (stops (n + 1) k) refl closed
    where
      on_still : stops (n + 1) k ≡ true → (k ≡ n → ends n ≡ true) → stops n k ≡ true
      on_still on end = elim (cases_lt k n) [
        | inl low ↦ at_low n k low
        | inr high ↦ elim (cases_eq k n) [
          | inl same ↦ ap (stops n) same ∙ at_high n n (omega arith) ∙ end same
          | inr other ↦ at_high n k high ∙ sym (at_high (n + 1) k (omega (arith, high, other))) ∙ on
        ]
      ]

      off_still : stops (n + 1) k ≡ false → stops n k ≡ false
      off_still off = elim (cases_lt k (n + 1)) [
        | inl low ↦ absurd (let on = at_low (n + 1) k low in both_values on off)
        | inr high ↦ at_high n k (omega (arith, high)) ∙ sym (at_high (n + 1) k high) ∙ off
      ]
        where
          both_values : {b : Bool} → b ≡ true → b ≡ false → ⊥
          both_values on off = cc

      enough_there : stops (n + 1) k ≡ false → parent k ≤ t
      enough_there off = elim (cases_eq k 0) [
        | inl none ↦ absurd (let on = ap (stops (n + 1)) none ∙ stops_root (n + 1) in both_values on off)
        | inr some ↦ (let less = before k (omega (arith, some)) in omega (arith, less, enough))
      ]
        where
          both_values : {b : Bool} → b ≡ true → b ≡ false → ⊥
          both_values on off = cc

      by_test : (parent k ≤ t → (nearest (stops (n + 1)) parent t (parent k) ≡ n → ends n ≡ true) → nearest (stops n) parent t (parent k) ≡ nearest (stops (n + 1)) parent t (parent k))
          → (b : Bool) → stops (n + 1) k ≡ b → (cond b k (nearest (stops (n + 1)) parent t (parent k)) ≡ n → ends n ≡ true)
          → cond (stops n k) k (nearest (stops n) parent t (parent k)) ≡ cond b k (nearest (stops (n + 1)) parent t (parent k))
      by_test rest true on end = ap (λ (b : Bool). cond b k (nearest (stops n) parent t (parent k))) (on_still on end)
      by_test rest false off end = ap (λ (b : Bool). cond b k (nearest (stops n) parent t (parent k))) (off_still off) ∙ rest (enough_there off) end

  -- where its way ends, the walk doesn't matter from there on
  ends_so : (n g t k : ℕ) → ends g ≡ true → nearest (stops n) parent t k ≡ g → nearest ends parent t k ≡ g
  ends_so n g zero k end e = e
  ends_so n g (suc t) k end e = by_test (ends_so n g t (parent k) end) (stops n k) refl e
    where
      here : k ≡ g → cond (ends k) k (nearest ends parent t (parent k)) ≡ g
      here same = ap (λ (b : Bool). cond b k (nearest ends parent t (parent k))) (ap ends same ∙ end) ∙ same

      through : stops n k ≡ false → ends k ≡ false
      through off = by_low (nat_lt k n) off
        where
          by_low : (b : Bool) → (b || ends k) ≡ false → ends k ≡ false
          by_low true h = absurd cc
          by_low false h = h

      by_test : (nearest (stops n) parent t (parent k) ≡ g → nearest ends parent t (parent k) ≡ g)
          → (b : Bool) → stops n k ≡ b → cond b k (nearest (stops n) parent t (parent k)) ≡ g → cond (ends k) k (nearest ends parent t (parent k)) ≡ g
      by_test rest true on is = here is
      by_test rest false off is = ap (λ (b : Bool). cond b k (nearest ends parent t (parent k))) (through off) ∙ rest is

  waits_so : (n g t k : ℕ) → n ≤ g + 1 → nearest ends parent t k ≡ g → nearest (stops n) parent t k ≡ g
  waits_so n g zero k walked e = e
  waits_so n g (suc t) k walked e = by_test (waits_so n g t (parent k) walked) (ends k) refl e
    where
      on_too : ends k ≡ true → stops n k ≡ true
      on_too on = by_low (nat_lt k n)
        where
          by_low : (b : Bool) → (b || ends k) ≡ true
          by_low true = refl
          by_low false = on

      by_test : (nearest ends parent t (parent k) ≡ g → nearest (stops n) parent t (parent k) ≡ g)
          → (b : Bool) → ends k ≡ b → cond b k (nearest ends parent t (parent k)) ≡ g → cond (stops n k) k (nearest (stops n) parent t (parent k)) ≡ g
      by_test rest true on is = ap (λ (b : Bool). cond b k (nearest (stops n) parent t (parent k))) (on_too on) ∙ is
      by_test rest false off is = elim (cases_eq k 0) [
        | inl none ↦ absurd (let on = ap ends none ∙ root in both_values on off)
        | inr some ↦ (let less = before k (omega (arith, some)) in
            let low = nearest-low ends parent root before t (parent k) in
            let high : n ≤ k = omega (arith, less, low, is, walked) in
            ap (λ (b : Bool). cond b k (nearest (stops n) parent t (parent k))) (at_high n k high ∙ off) ∙ rest is)
      ]
        where
          both_values : {b : Bool} → b ≡ true → b ≡ false → ⊥
          both_values on off = cc

  -- So for the way of a node from its parent on.
  pub way_goes : (n k : ℕ) → 0 < n → ends n ≡ false → nearest_around (stops (n + 1)) parent k ≡ n → nearest_around (stops n) parent k ≡ parent n
  way_goes n k some through e = goes n (parent k) (parent k) some (omega arith) through e

  pub way_stays : (n k : ℕ) → (nearest_around (stops (n + 1)) parent k ≡ n → ends n ≡ true) → nearest_around (stops n) parent k ≡ nearest_around (stops (n + 1)) parent k
  way_stays n k closed = stays n (parent k) (parent k) (omega arith) closed

  pub way_begins : (n : ℕ) → 0 < n → nearest_around (stops n) parent n ≡ parent n
  way_begins n some = begins (parent n)
    where
      begins : (u : ℕ) → nearest (stops n) parent u (parent n) ≡ parent n
      begins zero = refl
      begins (suc u) = ap (λ (b : Bool). cond b (parent n) (nearest (stops n) parent u (parent (parent n)))) (at_low n (parent n) (before n some))

  pub way_ends : (n g k : ℕ) → ends g ≡ true → nearest_around (stops n) parent k ≡ g → nearest_around ends parent k ≡ g
  way_ends n g k end e = ends_so n g (parent k) (parent k) end e

  pub way_waits : (n g k : ℕ) → n ≤ g + 1 → nearest_around ends parent k ≡ g → nearest_around (stops n) parent k ≡ g
  way_waits n g k walked e = waits_so n g (parent k) (parent k) walked e
