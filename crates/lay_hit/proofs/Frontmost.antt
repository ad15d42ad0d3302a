-- The frontmost of some nodes.
use Rattle.std.proofs.Common.{◌≡◌, ℕ, ◌<◌, Bool, true, false, ◌&&◌, ◌||◌, not, refl, sym, subst, arith, ◌⊎◌, inl, inr, if◌then◌else◌}
use Rattle.std.proofs.lemmas.Bool.{cases_eq, eqb-true, eqb-false, le-leb, leb-true, leb-false}
use Rattle.std.specs.Prelude.{nat_le, ◌==◌}
use Rattle.lay_hit.specs.Pages.{Page}
use Rattle.lay_hit.specs.Wholes.{is_painted_under}
use Rattle.lay_hit.specs.Fronts.{in_front, is_behind, IsFrontmost}
use Rattle.lay_hit.proofs.RankOrder.{rank_order}

-- in an order, and among equals by number
one_way : (j k : ℕ) (a b : Bool) → (a ≡ false → b ≡ true) → (a && (not b || nat_le j k)) ≡ false → (b && (not a || nat_le k j)) ≡ true
one_way j k true true h e = let l = leb-false j k e in le-leb k j (omega (arith, l))
one_way j k true false h e = absurd cc
one_way j k false true h e = refl
one_way j k false false h e = let g = h refl in absurd cc

two_ways : (j k : ℕ) (a b : Bool) → (a && (not b || nat_le j k)) ≡ true → (b && (not a || nat_le k j)) ≡ true → j ≡ k
two_ways j k true true e f = let l = leb-true j k e in let m = leb-true k j f in omega (arith, l, m)
two_ways j k true false e f = absurd cc
two_ways j k false b e f = absurd cc

chained : (i j k : ℕ) (ij ji jk kj ik ki : Bool) → (ij ≡ true → jk ≡ true → ik ≡ true) → (ki ≡ true → ij ≡ true → kj ≡ true) → (jk ≡ true → ki ≡ true → ji ≡ true)
    → (ij && (not ji || nat_le i j)) ≡ true → (jk && (not kj || nat_le j k)) ≡ true → (ik && (not ki || nat_le i k)) ≡ true
chained i j k false ji jk kj ik ki one two three e f = absurd cc
chained i j k true ji false kj ik ki one two three e f = absurd cc
chained i j k true ji true kj false ki one two three e f = let g = one refl refl in absurd cc
chained i j k true ji true kj true false one two three e f = refl
chained i j k true ji true false true true one two three e f = let g = two refl refl in absurd cc
chained i j k true false true true true true one two three e f = let g = three refl refl in absurd cc
chained i j k true true true true true true one two three e f = let l = leb-true i j e in let m = leb-true j k f in le-leb i k (omega (arith, l, m))

module _ (p : Page) where
  pub behind-either : (j k : ℕ) → is_behind p j k ≡ false → is_behind p k j ≡ true
  behind-either j k e = one_way j k (is_painted_under p j k) (is_painted_under p k j) ((rank_order p).either j k) e

  pub behind-same : (j k : ℕ) → is_behind p j k ≡ true → is_behind p k j ≡ true → j ≡ k
  behind-same j k e f = two_ways j k (is_painted_under p j k) (is_painted_under p k j) e f

  pub behind-chain : (i j k : ℕ) → is_behind p i j ≡ true → is_behind p j k ≡ true → is_behind p i k ≡ true
  behind-chain i j k e f =
      chained i j k (is_painted_under p i j) (is_painted_under p j i) (is_painted_under p j k) (is_painted_under p k j) (is_painted_under p i k) (is_painted_under p k i)
      ((rank_order p).chain i j k) ((rank_order p).chain k i j) ((rank_order p).chain j k i) e f

  pub behind-self : (k : ℕ) → is_behind p k k ≡ true
  behind-self k = by_test (is_behind p k k) refl
    where
      by_test : (b : Bool) → is_behind p k k ≡ b → is_behind p k k ≡ true
      by_test true is = is
      by_test false is = behind-either k k is

  -- there is one at most
  pub only : (among : ℕ → Type 0) (f g : ℕ) → IsFrontmost p among f → IsFrontmost p among g → f ≡ g
  only among f g one other = elim (cases_eq f 0) [
    | inl none ↦ elim (cases_eq g 0) [
      | inl same ↦ omega (arith, none, same)
      | inr some ↦ (let found = (one.all g (other.one (omega (arith, some)))).0 in absurd (omega (arith, found, none)))
    ]
    | inr some ↦ (let there = one.one (omega (arith, some)) in
        let low = other.all f there in
        let back = one.all g (other.one low.0) in
        behind-same f g low.1 back.1)
  ]

  -- of the same nodes
  pub also : (these those : ℕ → Type 0) (f : ℕ) → ((k : ℕ) → these k → those k) → ((k : ℕ) → those k → these k) → IsFrontmost p these f → IsFrontmost p those f
  also these those f there back is = record {
    one = λ some. there f (is.one some);
    all = λ k h. is.all k (back k h);
  }

  pub none : (among : ℕ → Type 0) → ((k : ℕ) → among k → ⊥) → IsFrontmost p among 0
  none among absent = record {
    one = λ some. absurd (omega (arith, some));
    all = λ k h. absurd (absent k h);
  }

  -- one node, where it counts
  pub single : (c : Bool) (n : ℕ) → 0 < n → IsFrontmost p (λ k. (k ≡ n) × (c ≡ true)) (if c then n else 0)
  single true n some = record {
    one = λ h. (refl, refl);
    all = λ k is. (some, subst (λ (j : ℕ). is_behind p j n ≡ true) (sym is.0) (behind-self n));
  }
  single false n some = none (λ k. (k ≡ n) × (false ≡ true)) (λ k is. let e = is.1 in cc)

  -- nodes that count only together
  pub unless : (c : Bool) (among : ℕ → Type 0) (f : ℕ) → IsFrontmost p among f → IsFrontmost p (λ k. (c ≡ false) × among k) (if c then 0 else f)
  unless true among f is = none (λ k. (true ≡ false) × among k) (λ k h. let e = h.0 in cc)
  unless false among f is = also among (λ k. (false ≡ false) × among k) f (λ k h. (refl, h)) (λ k h. h.1) is

  pub in_front-none : (f : ℕ) → in_front p f 0 ≡ f
  in_front-none f = by_test (f == 0) refl
    where
      by_test : (b : Bool) → (f == 0) ≡ b → (if b then 0 else f) ≡ f
      by_test true is = sym (eqb-true f 0 is)
      by_test false is = refl

  -- of some nodes and others
  module _ (these those both : ℕ → Type 0) (f g : ℕ) (one : IsFrontmost p these f) (other : IsFrontmost p those g) (apart : (k : ℕ) → both k → these k ⊎ those k) (left : (k : ℕ) → these k → both k) (right : (k : ℕ) → those k → both k) where
    pub first : g ≡ 0 → IsFrontmost p both f
    first absent = record {
      one = λ some. left f (one.one some);
      all = λ k h. elim (apart k h) [
        | inl here ↦ one.all k here
        | inr there ↦ absurd (let low = (other.all k there).0 in omega (arith, low, absent))
      ];
    }

    pub second : f ≡ 0 → IsFrontmost p both g
    second absent = record {
      one = λ some. right g (other.one some);
      all = λ k h. elim (apart k h) [
        | inl here ↦ absurd (let low = (one.all k here).0 in omega (arith, low, absent))
        | inr there ↦ other.all k there
      ];
    }

    pub later : 0 < g → is_behind p f g ≡ true → IsFrontmost p both g
    later some order = record {
      one = λ h. right g (other.one h);
      all = λ k h. elim (apart k h) [
        | inl here ↦ (some, behind-chain k f g (one.all k here).1 order)
        | inr there ↦ other.all k there
      ];
    }

    pub earlier : 0 < f → is_behind p g f ≡ true → IsFrontmost p both f
    earlier some order = record {
      one = λ h. left f (one.one h);
      all = λ k h. elim (apart k h) [
        | inl here ↦ one.all k here
        | inr there ↦ (some, behind-chain k g f (other.all k there).1 order)
      ];
    }

    pub joined : IsFrontmost p both (in_front p f g)
    joined = by_first (f == 0) refl
      where
        by_order : 0 < f → 0 < g → (b : Bool) → is_behind p f g ≡ b → IsFrontmost p both (if b then g else f)
        by_order some more true is = later more is
        by_order some more false is = earlier some (behind-either f g is)

        by_second : 0 < f → (b : Bool) → (g == 0) ≡ b → IsFrontmost p both (if b then f else (if is_behind p f g then g else f))
        by_second some true is = first (eqb-true g 0 is)
        by_second some false is = by_order some (let e = eqb-false g 0 is in omega (arith, e)) (is_behind p f g) refl

        by_first : (b : Bool) → (f == 0) ≡ b → IsFrontmost p both (if b then g else (if g == 0 then f else (if is_behind p f g then g else f)))
        by_first true is = second (eqb-true f 0 is)
        by_first false is = by_second (let e = eqb-false f 0 is in omega (arith, e)) (g == 0) refl
