-- Where nothing has a negative width, more content reaches no less far.
use Rattle.std.proofs.Common.{◌≡◌, ℕ, zero, suc, ◌/◌, ℤ, pos, negsuc, ◌+ℤ◌, ◌*ℤ◌}
use Rattle.std.proofs.Common.{◌≤ℤ◌, Bool, true, false, if◌then◌else◌, List, [], ◌∷◌, All, arith}
use Rattle.std.proofs.Math.Nat.{lt-div-mul-add, div-mul-le_self, suc-mul}
use Rattle.std.proofs.Math.IntN.{*ℤ-zero, pos-*ℤ-pos, negsuc-*ℤ-pos}
use Rattle.std.proofs.lemmas.Int.{ints}
use Rattle.std.proofs.lemmas.List.Elements.{All-head, All-tail}
use Rattle.lay_units.specs.TabStops.{next_stop}
use Rattle.lay_lines.specs.declared.content.content.Part.{Part}
use Rattle.lay_lines.specs.declared.content.content.Part.TheVariants as line
use Rattle.lay_lines.specs.declared.content.frame.Frame.{Frame}
use Rattle.lay_lines.specs.declared.content.pen.Pen.{Pen as LinePen}
use Rattle.lay_lines.specs.Content.Pens.{over, over_all}
use Rattle.lay_flow_boxes.proofs.Cited.{times_more}
use Rattle.lay_flow_boxes.specs.Words.LinesAlone.{IsNotNegative}

next_times : (q : ℤ) (s : ℕ) → (q +ℤ pos 1) *ℤ pos s ≡ (q *ℤ pos s) +ℤ pos s
next_times q zero = let a = *ℤ-zero (q +ℤ pos 1) in let b = *ℤ-zero q in omega (arith, ints, a, b)
next_times q (suc s) =
    let so_far = next_times q s in
    let a = times_more (q +ℤ pos 1) s in
    let b = times_more q s in
    omega (arith, ints, so_far, a, b)

-- the next tab stop isn't before the place
stop_further : (tab at : ℤ) → at ≤ℤ next_stop tab at
stop_further (pos zero) at = omega (arith, ints)
stop_further (pos (suc s)) (pos a) =
    let n = next_times (pos (a / suc s)) (suc s) in
    let t = pos-*ℤ-pos (a / suc s) (suc s) in
    let high = lt-div-mul-add {a = a} {b = suc s} (omega arith) in
    omega (arith, ints, n, t, high)
stop_further (pos (suc s)) (negsuc a) =
    let n = next_times (negsuc (a / suc s)) (suc s) in
    let t = negsuc-*ℤ-pos (a / suc s) (suc s) in
    let m = suc-mul (a / suc s) (suc s) in
    let low = div-mul-le_self a (suc s) in
    let high = lt-div-mul-add {a = a} {b = suc s} (omega arith) in
    omega (arith, ints, n, t, m, low, high)
stop_further (negsuc s) at = omega (arith, ints)

-- the second pen shows no less, and what it shows is no further than where more would begin
pub record Grows (p q : LinePen) : Type 0 where
  pub visible : p.visible.0 ≤ℤ q.visible.0
  pub order : q.visible.0 ≤ℤ q.at.0

grows_either : (b : Bool) (p q r : LinePen) → Grows p q → Grows p r → Grows p (if b then q else r)
grows_either true p q r a b = a
grows_either false p q r a b = b

grows_by : (v at w : ℤ) → pos 0 ≤ℤ w → v ≤ℤ at → v ≤ℤ (at +ℤ w)
grows_by v at w more h = omega (arith, ints, more, h)

grows_self : (v w : ℤ) → pos 0 ≤ℤ w → v ≤ℤ (v +ℤ w)
grows_self v w more = omega (arith, ints, more)

same_order : (v at w : ℤ) → v ≤ℤ at → (v +ℤ w) ≤ℤ (at +ℤ w)
same_order v at w h = omega (arith, ints, h)

not_more : (v : ℤ) → v ≤ℤ v
not_more v = omega (arith, ints)

no_further : (a b c : ℤ) → a ≤ℤ b → b ≤ℤ c → a ≤ℤ c
no_further a b c p q = omega (arith, ints, p, q)

abbrev after_space : LinePen → ℤ → LinePen
after_space p w = record { at = record { 0 = p.at.0 +ℤ w }; visible = p.visible; solid = p.solid; started = true; seen = p.seen }

part_grows : (fr : Frame) (p : LinePen) (x : Part) → IsNotNegative x → p.visible.0 ≤ℤ p.at.0 → Grows p (over fr p x)
part_grows fr p (line.Space w) more h =
    grows_either p.started p (after_space p w.width.0) p
    (record { visible = not_more p.visible.0; order = grows_by p.visible.0 p.at.0 w.width.0 more h })
    (record { visible = not_more p.visible.0; order = h })
part_grows fr p (line.PreservedSpace w) more h = record {
  visible = not_more p.visible.0;
  order = grows_by p.visible.0 p.at.0 w.width.0 more h;
}
part_grows fr p (line.Tab t) more h =
    record {
      visible = no_further p.visible.0 p.at.0 (next_stop fr.tab.0 p.at.0) h (stop_further fr.tab.0 p.at.0);
      order = not_more (next_stop fr.tab.0 p.at.0);
    }
part_grows fr p line.Linefeed more h = record { visible = not_more p.visible.0; order = h }
part_grows fr p (line.Text w) more h =
    record { visible = grows_by p.visible.0 p.at.0 w.width.0 more h; order = not_more (p.at.0 +ℤ w.width.0) }
part_grows fr p (line.Start b) more h = record {
  visible = grows_self p.visible.0 b.width.0 more;
  order = same_order p.visible.0 p.at.0 b.width.0 h;
}
part_grows fr p (line.End b) more h = record {
  visible = grows_self p.visible.0 b.width.0 more;
  order = same_order p.visible.0 p.at.0 b.width.0 h;
}
part_grows fr p (line.Atomic a) more h =
    record { visible = grows_by p.visible.0 p.at.0 a.width.0 more h; order = not_more (p.at.0 +ℤ a.width.0) }

pub parts_grow : (fr : Frame) (p : LinePen) (xs : List Part) → All IsNotNegative xs → p.visible.0 ≤ℤ p.at.0 → Grows p (over_all fr p xs)
parts_grow fr p [] more h = record { visible = not_more p.visible.0; order = h }
parts_grow fr p (x ∷ xs) more h =
    let first = part_grows fr p x (All-head IsNotNegative x xs more) h in
    let rest = parts_grow fr (over fr p x) xs (All-tail IsNotNegative x xs more) first.order in
    record {
      visible = no_further p.visible.0 (over fr p x).visible.0 (over_all fr (over fr p x) xs).visible.0 first.visible rest.visible;
      order = rest.order;
    }
