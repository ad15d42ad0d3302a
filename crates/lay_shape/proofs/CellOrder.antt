-- The cells in order: each stands there, where its turn is, and there are three times as many as contexts at most.
use Rattle.std.proofs.Common.{◌≡◌, ◌⊎◌, ⊎_elim, ℕ, zero, suc, ◌+◌, ◌-◌, ◌<◌, ◌≤◌, ◌==◌, nat_le, Bool, true, false, cond, List, [], ◌∷◌, length, map, filter, flat_map, reverse, slice_get, Some, refl, ap, subst, arith, length-append}
use Rattle.std.proofs.lemmas.Bool.{eqb-true, eq-eqb, le-leb, leb-true}
use Rattle.std.proofs.lemmas.List.{length-map, length-reverse, reverse-reverse}
use Rattle.std.proofs.lemmas.List.FromFn.{length-range_with_len}
use Rattle.std.specs.List.{range_with_len}
use Rattle.lay_cells.specs.Shapes.{IsIn}
use Rattle.lay_context.specs.declared.task.Phase.{Phase}
use Rattle.lay_context.specs.declared.task.Phase.TheVariants.{Measure, Size, Place}
use Rattle.lay_contexts.specs.Contexts.{AreContexts, Context}
use Rattle.lay_shape.specs.declared.context_phase.ContextPhase.{ContextPhase}
use Rattle.lay_shape.specs.Dependencies.{in_phase, needs_in}
use Rattle.lay_shape.specs.Levels.{level_of}
use Rattle.lay_shape.specs.Shapes.{at_level, cells_of, numbers_of, round_of}
use Rattle.lay_shape.proofs.LevelSteps.{level_few}
use Rattle.lay_shape.proofs.Members.{from_filter, from_flat_map, from_map, from_range, in_either, in_filter, in_flat_map, in_left, in_map, in_range, in_reverse, in_right}
use Rattle.lay_shape.proofs.Rising.{Rises, falling, in_order, joined, one_place, rising, rounds}
use Rattle.lay_shape.proofs.Turns.{before, round_start, turn}

all_pass : (xs : List ℕ) → filter (λ i. true) xs ≡ xs
all_pass [] = refl
all_pass (x ∷ xs) = ap (λ l. x ∷ l) (all_pass xs)

from_reverse : {X : Type 0} (xs : List X) (x : X) → IsIn (reverse xs) x → IsIn xs x
from_reverse xs x has = subst (λ l. IsIn l x) (reverse-reverse xs) (in_reverse (reverse xs) x has)

-- those of one number, and those of higher ones, are of that one or higher
module _ (f : ℕ → ℕ) where
  three : (x : ℕ) (b c d : Bool) → (b ≡ true → d ≡ true) → (c ≡ true → d ≡ true) → (b ≡ true → c ≡ true → ⊥) → (u v w : List ℕ)
      → length u + length v ≤ length w → length (cond b (x ∷ u) u) + length (cond c (x ∷ v) v) ≤ length (cond d (x ∷ w) w)
  three x true true d p q r u v w le = absurd (r refl refl)
  three x true false true p q r u v w le = omega (arith, le)
  three x true false false p q r u v w le = let e = p refl in cc
  three x false true true p q r u v w le = omega (arith, le)
  three x false true false p q r u v w le = let e = q refl in cc
  three x false false true p q r u v w le = omega (arith, le)
  three x false false false p q r u v w le = le

  parted : (a : ℕ) (xs : List ℕ) → length (filter (λ i. f i == a) xs) + length (filter (λ i. nat_le (a + 1) (f i)) xs) ≤ length (filter (λ i. nat_le a (f i)) xs)
  parted a [] = omega arith
  parted a (x ∷ xs) =
      three x (f x == a) (nat_le (a + 1) (f x)) (nat_le a (f x))
      (λ e. let same = eqb-true (f x) a e in le-leb a (f x) (omega (arith, same)))
      (λ e. let le = leb-true (a + 1) (f x) e in le-leb a (f x) (omega (arith, le)))
      (λ e g. let same = eqb-true (f x) a e in let le = leb-true (a + 1) (f x) g in omega (arith, same, le))
      (filter (λ i. f i == a) xs) (filter (λ i. nat_le (a + 1) (f i)) xs) (filter (λ i. nat_le a (f i)) xs) (parted a xs)

some_left : (p : ℕ → Bool) (xs : List ℕ) → length (filter p xs) ≤ length xs
some_left p [] = omega arith
some_left p (x ∷ xs) = by (p x) (some_left p xs)
  where
    by : (b : Bool) → length (filter p xs) ≤ length xs → length (cond b (x ∷ filter p xs) (filter p xs)) ≤ length (x ∷ xs)
    by true le = omega (arith, le)
    by false le = omega (arith, le)

module _ (contexts : List Context) where
  abbrev n : ℕ
  n = length contexts

  abbrev numbers : List ℕ
  numbers = numbers_of contexts

  round_length : (l : ℕ) → length (round_of contexts l) ≡ length (at_level contexts l) + length (at_level contexts l)
  round_length l =
      let a = length-append (map (in_phase Size) (at_level contexts l)) (map (in_phase Place) (reverse (at_level contexts l))) in
      let b = length-map (at_level contexts l) (in_phase Size) in
      let c = length-map (reverse (at_level contexts l)) (in_phase Place) in
      let d = length-reverse (at_level contexts l) in
      omega (arith, a, b, c, d)

  rounds_few : (a m : ℕ) → length (flat_map (round_of contexts) (range_with_len a m))
      ≤ length (filter (λ i. nat_le a (level_of contexts i)) numbers) + length (filter (λ i. nat_le a (level_of contexts i)) numbers)
  rounds_few a zero = omega arith
  rounds_few a (suc m) =
      let one = length-append (round_of contexts a) (flat_map (round_of contexts) (range_with_len (a + 1) m)) in
      let here = round_length a in
      let rest = rounds_few (a + 1) m in
      let parts = parted (level_of contexts) a numbers in
      omega (arith, one, here, rest, parts)

  pub cells_few : length (cells_of contexts) ≤ n + n + n
  cells_few =
      let a = length-append (map (in_phase Measure) (reverse numbers)) (flat_map (round_of contexts) (range_with_len 0 (n + 1))) in
      let b = length-map (reverse numbers) (in_phase Measure) in
      let c = length-reverse numbers in
      let d = length-range_with_len 0 n in
      let e = rounds_few 0 (n + 1) in
      let f = some_left (λ i. nat_le 0 (level_of contexts i)) numbers in
      omega (arith, a, b, c, d, e, f)

module _ (contexts : List Context) (are : AreContexts contexts) where
  abbrev count : ℕ
  count = length contexts

  abbrev turn_of : ContextPhase → ℕ
  turn_of = turn contexts are

  at_is : (l i : ℕ) → (level_of contexts i == l) ≡ true → level_of contexts i ≡ l
  at_is l i e = eqb-true (level_of contexts i) l e

  measures_rise : Rises turn_of 0 (map (in_phase Measure) (reverse (numbers_of contexts))) count
  measures_rise =
      let r = falling turn_of (in_phase Measure) (λ i. true) count 0 count (omega arith) (λ i yes lt. omega (arith, lt)) in
      let low : count - (0 + count) ≡ 0 = omega arith in
      let high : count - 0 ≡ count = omega arith in
      subst (λ k. Rises turn_of k (map (in_phase Measure) (reverse (numbers_of contexts))) count) low
      (subst (λ k. Rises turn_of (count - (0 + count)) (map (in_phase Measure) (reverse (numbers_of contexts))) k) high
      (subst (λ l. Rises turn_of (count - (0 + count)) (map (in_phase Measure) (reverse l)) (count - 0)) (all_pass (numbers_of contexts)) r))

  round_rises : (l : ℕ) → Rises turn_of (round_start count l) (round_of contexts l) (round_start count (l + 1))
  round_rises l =
      let base = round_start count l in
      let top = base + (count + count) in
      let up = rising turn_of (in_phase Size) (λ i. level_of contexts i == l) base 0 count
      (λ i yes lt. let e = ap (round_start count) (at_is l i yes) in omega (arith, e)) in
      let down = falling turn_of (in_phase Place) (λ i. level_of contexts i == l) top 0 count (omega arith)
      (λ i yes lt. let e = ap (round_start count) (at_is l i yes) in omega (arith, e, lt)) in
      let mid : top - (0 + count) ≡ base + (0 + count) = omega arith in
      let first : base + 0 ≡ base = omega arith in
      let last : top - 0 ≡ round_start count (l + 1) = omega arith in
      joined turn_of base (base + (0 + count)) (round_start count (l + 1)) (map (in_phase Size) (at_level contexts l)) (map (in_phase Place) (reverse (at_level contexts l)))
      (subst (λ k. Rises turn_of k (map (in_phase Size) (at_level contexts l)) (base + (0 + count))) first up)
      (subst (λ k. Rises turn_of k (map (in_phase Place) (reverse (at_level contexts l))) (round_start count (l + 1))) mid
      (subst (λ k. Rises turn_of (top - (0 + count)) (map (in_phase Place) (reverse (at_level contexts l))) k) last down))

  pub cells_rise : Rises turn_of 0 (cells_of contexts) (round_start count (0 + (count + 1)))
  cells_rise =
      let start : round_start count 0 ≡ count = omega arith in
      joined turn_of 0 count (round_start count (0 + (count + 1))) (map (in_phase Measure) (reverse (numbers_of contexts))) (flat_map (round_of contexts) (range_with_len 0 (count + 1)))
      measures_rise
      (subst (λ k. Rises turn_of k (flat_map (round_of contexts) (range_with_len 0 (count + 1))) (round_start count (0 + (count + 1)))) start
      (rounds turn_of (round_of contexts) (round_start count) 0 (count + 1) round_rises))

  in_level : (i : ℕ) → i < count → IsIn (at_level contexts (level_of contexts i)) i
  in_level i lt =
      in_filter (λ j. level_of contexts j == level_of contexts i) (numbers_of contexts) i (in_range 0 count i (omega arith) (omega (arith, lt))) (eq-eqb (level_of contexts i) (level_of contexts i) refl)

  in_round : (i : ℕ) → i < count → (c : ContextPhase) → IsIn (round_of contexts (level_of contexts i)) c → IsIn (cells_of contexts) c
  in_round i lt c has =
      let few = level_few contexts are i lt in
      in_right (map (in_phase Measure) (reverse (numbers_of contexts))) (flat_map (round_of contexts) (range_with_len 0 (count + 1))) c
      (in_flat_map (round_of contexts) (range_with_len 0 (count + 1)) (level_of contexts i) c (in_range 0 (count + 1) (level_of contexts i) (omega arith) (omega (arith, few, lt))) has)

  -- each cell is there
  pub cell_in : (p : Phase) (i : ℕ) → i < count → IsIn (cells_of contexts) (in_phase p i)
  cell_in Measure i lt =
      in_left (map (in_phase Measure) (reverse (numbers_of contexts))) (flat_map (round_of contexts) (range_with_len 0 (count + 1))) (in_phase Measure i)
      (in_map (in_phase Measure) (reverse (numbers_of contexts)) i (in_reverse (numbers_of contexts) i (in_range 0 count i (omega arith) (omega (arith, lt)))))
  cell_in Size i lt =
      in_round i lt (in_phase Size i)
      (in_left (map (in_phase Size) (at_level contexts (level_of contexts i))) (map (in_phase Place) (reverse (at_level contexts (level_of contexts i)))) (in_phase Size i)
      (in_map (in_phase Size) (at_level contexts (level_of contexts i)) i (in_level i lt)))
  cell_in Place i lt =
      in_round i lt (in_phase Place i)
      (in_right (map (in_phase Size) (at_level contexts (level_of contexts i))) (map (in_phase Place) (reverse (at_level contexts (level_of contexts i)))) (in_phase Place i)
      (in_map (in_phase Place) (reverse (at_level contexts (level_of contexts i))) i (in_reverse (at_level contexts (level_of contexts i)) i (in_level i lt))))

  number_small : (p : Phase) (xs : List ℕ) → ((i : ℕ) → IsIn xs i → i < count) → (c : ContextPhase) → IsIn (map (in_phase p) xs) c → c.context < count
  number_small p xs small c has =
      let r = from_map (in_phase p) xs c has in
      let e = ap (λ (x : ContextPhase). x.context) r.is in
      let lt = small r.x r.there in
      omega (arith, e, lt)

  numbers_small : (i : ℕ) → IsIn (numbers_of contexts) i → i < count
  numbers_small i has = let r = from_range 0 count i has in let lt = r.1 in omega (arith, lt)

  level_small : (l i : ℕ) → IsIn (at_level contexts l) i → i < count
  level_small l i has = numbers_small i (from_filter (λ j. level_of contexts j == l) (numbers_of contexts) i has).0

  -- and is of a context
  pub cell_within : (c : ContextPhase) → IsIn (cells_of contexts) c → c.context < count
  cell_within c has =
      ⊎_elim
      (λ m. number_small Measure (reverse (numbers_of contexts)) (λ i h. numbers_small i (from_reverse (numbers_of contexts) i h)) c m)
      (λ rest. let part = from_flat_map (round_of contexts) (range_with_len 0 (count + 1)) c rest in
      ⊎_elim
      (λ s. number_small Size (at_level contexts part.x) (level_small part.x) c s)
      (λ p. number_small Place (reverse (at_level contexts part.x)) (λ i h. level_small part.x i (from_reverse (at_level contexts part.x) i h)) c p)
      (in_either (map (in_phase Size) (at_level contexts part.x)) (map (in_phase Place) (reverse (at_level contexts part.x))) c part.inside))
      (in_either (map (in_phase Measure) (reverse (numbers_of contexts))) (flat_map (round_of contexts) (range_with_len 0 (count + 1))) c has)

  -- no cell stands twice
  pub cell_once : (a b : ℕ) (c : ContextPhase) → slice_get (cells_of contexts) a ≡ Some c → slice_get (cells_of contexts) b ≡ Some c → a ≡ b
  cell_once a b c x y = one_place turn_of 0 (round_start count (0 + (count + 1))) (cells_of contexts) cells_rise a b c c x y refl

  -- what a cell depends on stands before it
  pub need_before : (k : ℕ) (c d : ContextPhase) → slice_get (cells_of contexts) k ≡ Some c → IsIn (needs_in contexts c) d → (j : ℕ) × (j < k) × (slice_get (cells_of contexts) j ≡ Some d)
  need_before k c d at has =
      let b = before contexts are c.phase c.context (cell_within c (k, at)) d has in
      let there = cell_in d.phase d.context b.within in
      (there.0, in_order turn_of 0 (round_start count (0 + (count + 1))) (cells_of contexts) cells_rise there.0 k d c there.1 at b.earlier, there.1)
