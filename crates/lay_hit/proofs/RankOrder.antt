-- The order of ranks.
use Rattle.std.proofs.Common.{◌≡◌, ℕ, Bool, true, false, ◌&&◌, ◌||◌, ℤ, pos, negsuc, refl, arith}
use Rattle.std.specs.Prelude.{int_le, nat_lt, ◌==◌}
use Rattle.std.proofs.lemmas.Bool.Decides.{nat_tests}
use Rattle.lay_hit.specs.Pages.{Page}
use Rattle.lay_hit.specs.Ranks.{paint_rank_at}
use Rattle.lay_hit.specs.Wholes.{is_painted_under}
use Rattle.lay_hit.proofs.Rising.{IsOrder}

le-either : (a b : ℤ) → int_le a b ≡ false → int_le b a ≡ true
le-either (pos a) (pos b) e = grind (arith, nat_tests)
le-either (pos a) (negsuc b) e = refl
le-either (negsuc a) (pos b) e = absurd cc
le-either (negsuc a) (negsuc b) e = grind (arith, nat_tests)

le-chain : (a b c : ℤ) → int_le a b ≡ true → int_le b c ≡ true → int_le a c ≡ true
le-chain (pos a) (pos b) (pos c) e f = grind (arith, nat_tests)
le-chain (pos a) (pos b) (negsuc c) e f = absurd cc
le-chain (pos a) (negsuc b) c e f = absurd cc
le-chain (negsuc a) b (pos c) e f = refl
le-chain (negsuc a) (pos b) (negsuc c) e f = absurd cc
le-chain (negsuc a) (negsuc b) (negsuc c) e f = grind (arith, nat_tests)

-- in order of numbers, and where these are equal of a second test
either : (a b : ℕ) (s t : Bool) → (s ≡ false → t ≡ true) → (nat_lt a b || ((a == b) && s)) ≡ false → (nat_lt b a || ((b == a) && t)) ≡ true
either a b true t h e = grind (arith, nat_tests)
either a b false t h e = let g = h refl in grind (arith, nat_tests, g)

chain : (a b c : ℕ) (s t u : Bool) → (s ≡ true → t ≡ true → u ≡ true) → (nat_lt a b || ((a == b) && s)) ≡ true → (nat_lt b c || ((b == c) && t)) ≡ true → (nat_lt a c || ((a == c) && u)) ≡ true
chain a b c true true u h e f = let g = h refl refl in grind (arith, nat_tests, g)
chain a b c true false u h e f = grind (arith, nat_tests)
chain a b c false t u h e f = grind (arith, nat_tests)

pub rank_order : (p : Page) → IsOrder (is_painted_under p)
rank_order p = record {
  either = λ j k e. either (paint_rank_at p j).step (paint_rank_at p k).step (int_le (p.level j) (p.level k)) (int_le (p.level k) (p.level j)) (le-either (p.level j) (p.level k)) e;
  chain = λ i j k e f. chain (paint_rank_at p i).step (paint_rank_at p j).step (paint_rank_at p k).step (int_le (p.level i) (p.level j)) (int_le (p.level j) (p.level k)) (int_le (p.level i) (p.level k)) (le-chain (p.level i) (p.level j) (p.level k)) e f;
}
