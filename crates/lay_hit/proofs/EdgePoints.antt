-- Points at the edges of rectangles.
use Rattle.std.proofs.Common.{◌≡◌, ◌∙◌, Bool, true, false, not, ◌&&◌, ◌||◌, ℤ, pos, ◌≤ℤ◌, ◌+ℤ◌, ◌-ℤ◌, inl, inr, refl, sym, ap, arith}
use Rattle.std.specs.Prelude.{int_le, int_lt}
use Rattle.std.proofs.lemmas.Bool.{and_parts, and_left, false_from_ne_true, true_from_ne_false}
use Rattle.std.proofs.lemmas.Int.{ints}
use Rattle.lay_hit.specs.Hits.{is_from}
use Rattle.lay_hit.specs.Edges.{EdgesShareNothing, EmptyHoldNothing, PartsHoldAll}
use Rattle.lay_hit.proofs.PaintTests.{le-not}

-- behind the end of one length no point of it is in the next
not_both : (a m b n v : ℤ) → (a +ℤ m) ≤ℤ b → is_from a m v ≡ true → is_from b n v ≡ false
not_both a m b n v apart h =
    let parts = and_parts (int_le a v) (int_lt v (a +ℤ m)) h in
    let end = parts.1 in
    let none : int_le b v ≡ false = false_from_ne_true (int_le b v) (λ t. absurd (omega (arith, ints, t, end, apart))) in
    and_left (int_le b v) (int_lt v (b +ℤ n)) none

right_false : (a b : Bool) → b ≡ false → (a && b) ≡ false
right_false true b e = e
right_false false b e = refl

pub edges_share_nothing_lem : EdgesShareNothing
edges_share_nothing_lem x y f g (inl beside) h =
    let parts = and_parts (is_from f.rect.x.0 f.rect.w.0 x) (is_from f.rect.y.0 f.rect.h.0 y) h in
    and_left (is_from g.rect.x.0 g.rect.w.0 x) (is_from g.rect.y.0 g.rect.h.0 y) (not_both f.rect.x.0 f.rect.w.0 g.rect.x.0 g.rect.w.0 x beside parts.0)
edges_share_nothing_lem x y f g (inr below) h =
    let parts = and_parts (is_from f.rect.x.0 f.rect.w.0 x) (is_from f.rect.y.0 f.rect.h.0 y) h in
    right_false (is_from g.rect.x.0 g.rect.w.0 x) (is_from g.rect.y.0 g.rect.h.0 y) (not_both f.rect.y.0 f.rect.h.0 g.rect.y.0 g.rect.h.0 y below parts.1)

none_from : (a m v : ℤ) → m ≤ℤ pos 0 → is_from a m v ≡ false
none_from a m v empty =
    false_from_ne_true (is_from a m v) (λ t.
    let parts = and_parts (int_le a v) (int_lt v (a +ℤ m)) t in
    let start = parts.0 in
    let end = parts.1 in
    absurd (omega (arith, ints, start, end, empty)))

pub empty_hold_nothing_lem : EmptyHoldNothing
empty_hold_nothing_lem x y f (inl narrow) =
    and_left (is_from f.rect.x.0 f.rect.w.0 x) (is_from f.rect.y.0 f.rect.h.0 y) (none_from f.rect.x.0 f.rect.w.0 x narrow)
empty_hold_nothing_lem x y f (inr low) =
    right_false (is_from f.rect.x.0 f.rect.w.0 x) (is_from f.rect.y.0 f.rect.h.0 y) (none_from f.rect.y.0 f.rect.h.0 y low)

-- one length and its two parts
tests : (a b d : Bool) → (b ≡ true → d ≡ true) → (b ≡ false → a ≡ true) → (a && d) ≡ ((a && b) || (not b && d))
tests true true d then else = then refl
tests true false d then else = refl
tests false true d then else = refl
tests false false d then else = absurd (let h = else refl in cc)

parts_from : (a m cut v : ℤ) → pos 0 ≤ℤ cut → cut ≤ℤ m → is_from a m v ≡ (is_from a cut v || is_from (a +ℤ cut) (m -ℤ cut) v)
parts_from a m cut v some within =
    let end : (a +ℤ cut) +ℤ (m -ℤ cut) ≡ a +ℤ m = omega (arith, ints) in
    tests (int_le a v) (int_lt v (a +ℤ cut)) (int_lt v (a +ℤ m)) (λ h. further h) (λ h. behind h)
    ∙ ap (λ b. (int_le a v && int_lt v (a +ℤ cut)) || (b && int_lt v (a +ℤ m))) (sym (le-not (a +ℤ cut) v))
    ∙ ap (λ e. (int_le a v && int_lt v (a +ℤ cut)) || (int_le (a +ℤ cut) v && int_lt v e)) (sym end)
  where
    further : int_lt v (a +ℤ cut) ≡ true → int_lt v (a +ℤ m) ≡ true
    further h = true_from_ne_false (int_lt v (a +ℤ m)) (λ f. absurd (omega (arith, ints, f, h, within)))

    behind : int_lt v (a +ℤ cut) ≡ false → int_le a v ≡ true
    behind h = true_from_ne_false (int_le a v) (λ f. absurd (omega (arith, ints, f, h, some)))

or_both : (a b c : Bool) → ((a || b) && c) ≡ ((a && c) || (b && c))
or_both true b true = refl
or_both true true false = refl
or_both true false false = refl
or_both false b c = refl

both_or : (a b c : Bool) → (c && (a || b)) ≡ ((c && a) || (c && b))
both_or a b true = refl
both_or a b false = refl

pub parts_hold_all_lem : PartsHoldAll
parts_hold_all_lem x y r cut some = record {
  beside = λ within. ap (λ b. b && is_from r.y.0 r.h.0 y) (parts_from r.x.0 r.w.0 cut x some within)
      ∙ or_both (is_from r.x.0 cut x) (is_from (r.x.0 +ℤ cut) (r.w.0 -ℤ cut) x) (is_from r.y.0 r.h.0 y);
  below = λ within. ap (λ b. is_from r.x.0 r.w.0 x && b) (parts_from r.y.0 r.h.0 cut y some within)
      ∙ both_or (is_from r.y.0 cut y) (is_from (r.y.0 +ℤ cut) (r.h.0 -ℤ cut) y) (is_from r.x.0 r.w.0 x);
}
