-- The tests of the steps of painting, by the step of a node and the node that paints it.
use Rattle.std.proofs.Common.{◌≡◌, ℕ, ◌<◌, ◌≤◌, Bool, true, false, cond, not, ◌&&◌, ◌||◌, ℤ, pos, negsuc, refl, sym, ap, ◌∙◌, arith, if◌then◌else◌}
use Rattle.std.specs.Prelude.{int_lt, int_le, nat_lt, nat_le, ◌==◌}
use Rattle.std.proofs.lemmas.Bool.{leb-true, and_parts}
use Rattle.std.proofs.lemmas.Bool.Decides.{nat_tests}
use Rattle.lay_hit.specs.declared.kinds.PaintKind.{PaintKind}
use Rattle.lay_hit.specs.declared.kinds.PaintKind.TheVariants.{Stacking, Layered, Float, Atomic, Block, Inline}
use Rattle.lay_hit.specs.PaintKinds.{is_stacking, is_layered, is_float_paint, is_atomic_paint, is_block_paint, is_inline_paint, forms_group}
use Rattle.lay_hit.specs.Ranks.{is_of_owner, step_of}

leb-not : (a b : ℕ) → nat_le a b ≡ not (nat_lt b a)
leb-not a b = grind (arith, nat_tests)

pub le-not : (a b : ℤ) → int_le a b ≡ not (int_lt b a)
le-not (pos a) (pos b) = leb-not a b
le-not (pos a) (negsuc b) = refl
le-not (negsuc a) (pos b) = refl
le-not (negsuc a) (negsuc b) = leb-not b a

pub and_none : (e : Bool) → (e && false) ≡ false
and_none true = refl
and_none false = refl

pub and_all : (e : Bool) → (e && true) ≡ e
and_all true = refl
and_all false = refl

pub stacking_forms : (k : PaintKind) → is_stacking k ≡ true → forms_group k ≡ true
stacking_forms Stacking e = refl
stacking_forms Layered e = absurd cc
stacking_forms Float e = absurd cc
stacking_forms Atomic e = absurd cc
stacking_forms Block e = absurd cc
stacking_forms Inline e = absurd cc

pub step_low : (k : PaintKind) (l : ℤ) → (2 ≤ step_of k l) × (step_of k l < 8)
step_low Stacking l = by_test (int_lt l (pos 0)) (int_lt (pos 0) l)
  where
    by_test : (b c : Bool) → (2 ≤ cond b 2 (cond c 7 6)) × (cond b 2 (cond c 7 6) < 8)
    by_test true c = (omega arith, omega arith)
    by_test false true = (omega arith, omega arith)
    by_test false false = (omega arith, omega arith)
step_low Layered l = (omega arith, omega arith)
step_low Float l = (omega arith, omega arith)
step_low Atomic l = (omega arith, omega arith)
step_low Block l = (omega arith, omega arith)
step_low Inline l = (omega arith, omega arith)

module _ (l : ℤ) (ow gr g : ℕ) where
  abbrev painted : PaintKind → ℕ → Bool
  painted k n = ((if is_of_owner k then ow else gr) == g) && (step_of k l == n)

  pub negative_test : (k : PaintKind) → painted k 2 ≡ (is_stacking k && (int_lt l (pos 0) && (ow == g)))
  negative_test Stacking = by_test (int_lt l (pos 0)) (int_lt (pos 0) l) (ow == g)
    where
      by_test : (b c e : Bool) → (e && (cond b 2 (cond c 7 6) == 2)) ≡ (b && e)
      by_test true c e = and_all e
      by_test false true e = and_none e
      by_test false false e = and_none e
  negative_test Layered = and_none (ow == g)
  negative_test Float = and_none (gr == g)
  negative_test Atomic = and_none (gr == g)
  negative_test Block = and_none (gr == g)
  negative_test Inline = and_none (gr == g)

  pub positive_test : (k : PaintKind) → painted k 7 ≡ (is_stacking k && (int_lt (pos 0) l && (ow == g)))
  positive_test Stacking = by_test (int_lt l (pos 0)) (int_lt (pos 0) l) (ow == g) (apart l)
    where
      apart : (v : ℤ) → int_lt v (pos 0) ≡ true → int_lt (pos 0) v ≡ false
      apart (pos n) e = grind (arith, nat_tests)
      apart (negsuc n) e = refl

      by_test : (b c e : Bool) → (b ≡ true → c ≡ false) → (e && (cond b 2 (cond c 7 6) == 7)) ≡ (c && e)
      by_test true true e one = absurd (let h = one refl in cc)
      by_test true false e one = and_none e
      by_test false true e one = and_all e
      by_test false false e one = and_none e
  positive_test Layered = and_none (ow == g)
  positive_test Float = and_none (gr == g)
  positive_test Atomic = and_none (gr == g)
  positive_test Block = and_none (gr == g)
  positive_test Inline = and_none (gr == g)

  pub zero_test : (k : PaintKind) → painted k 6 ≡ ((is_layered k || (is_stacking k && (int_le (pos 0) l && int_le l (pos 0)))) && (ow == g))
  zero_test Stacking = by_test (int_lt l (pos 0)) (int_lt (pos 0) l) (ow == g) ∙ ap (λ (b : Bool). (b && not (int_lt (pos 0) l)) && (ow == g)) (sym (le-not (pos 0) l)) ∙ ap (λ (b : Bool). (int_le (pos 0) l && b) && (ow == g)) (sym (le-not l (pos 0)))
    where
      by_test : (b c e : Bool) → (e && (cond b 2 (cond c 7 6) == 6)) ≡ ((not b && not c) && e)
      by_test true c e = and_none e
      by_test false true e = and_none e
      by_test false false e = and_all e
  zero_test Layered = and_all (ow == g)
  zero_test Float = and_none (gr == g)
  zero_test Atomic = and_none (gr == g)
  zero_test Block = and_none (gr == g)
  zero_test Inline = and_none (gr == g)

  stacking_step : (e : Bool) (n : ℕ) → (2 == n) ≡ false → (7 == n) ≡ false → (6 == n) ≡ false → (e && (step_of Stacking l == n)) ≡ false
  stacking_step e n two seven six = by_test (int_lt l (pos 0)) (int_lt (pos 0) l)
    where
      by_test : (b c : Bool) → (e && (cond b 2 (cond c 7 6) == n)) ≡ false
      by_test true c = ap (λ (x : Bool). e && x) two ∙ and_none e
      by_test false true = ap (λ (x : Bool). e && x) seven ∙ and_none e
      by_test false false = ap (λ (x : Bool). e && x) six ∙ and_none e

  pub block_test : (k : PaintKind) → painted k 3 ≡ (is_block_paint k && (gr == g))
  block_test Stacking = stacking_step (ow == g) 3 refl refl refl
  block_test Layered = and_none (ow == g)
  block_test Float = and_none (gr == g)
  block_test Atomic = and_none (gr == g)
  block_test Block = and_all (gr == g)
  block_test Inline = and_none (gr == g)

  pub float_test : (k : PaintKind) → painted k 4 ≡ (is_float_paint k && (gr == g))
  float_test Stacking = stacking_step (ow == g) 4 refl refl refl
  float_test Layered = and_none (ow == g)
  float_test Float = and_all (gr == g)
  float_test Atomic = and_none (gr == g)
  float_test Block = and_none (gr == g)
  float_test Inline = and_none (gr == g)

  pub inline_test : (k : PaintKind) → painted k 5 ≡ ((is_inline_paint k || is_atomic_paint k) && (gr == g))
  inline_test Stacking = stacking_step (ow == g) 5 refl refl refl
  inline_test Layered = and_none (ow == g)
  inline_test Float = and_none (gr == g)
  inline_test Atomic = and_all (gr == g)
  inline_test Block = and_none (gr == g)
  inline_test Inline = and_all (gr == g)

-- a level that is neither less nor greater than 0
pub level_zero : (l : ℤ) → (int_le (pos 0) l && int_le l (pos 0)) ≡ true → l ≡ pos 0
level_zero (pos n) e = let h = (and_parts (nat_le 0 n) (nat_le n 0) e).1 in let z : n ≡ 0 = (let m = leb-true n 0 h in omega (arith, m)) in ap pos z
level_zero (negsuc n) e = absurd cc
