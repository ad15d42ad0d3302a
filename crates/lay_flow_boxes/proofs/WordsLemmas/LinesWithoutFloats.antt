-- Lines without floats in them or beside them.
use Rattle.std.proofs.Common.{◌≡◌, inl, inr, ℕ, zero, suc, ℤ, ◌≤ℤ◌, Bool, true, false, ◌&&◌, not}
use Rattle.std.proofs.Common.{if◌then◌else◌, List, [], ◌∷◌, ◌++◌, All, slice_get, Some, refl, ap, subst, ◌∙◌, arith}
use Rattle.std.proofs.lemmas.Int.{ints}
use Rattle.std.proofs.lemmas.List.Elements.{All-head, All-tail}
use Rattle.std.proofs.lemmas.Option.{same_Some, slice_get_within}
use Rattle.lay_floats.specs.declared.placed.Placed.{Placed}
use Rattle.lay_floats.specs.Room.{IsRoom, LeftBounds, RightBounds}
use Rattle.lay_floats.specs.SolidPlace.{IsAlone}
use Rattle.lay_space.specs.declared.item.Item.{Item}
use Rattle.lay_space.specs.declared.item.Item.TheVariants as item
use Rattle.lay_space.specs.declared.segment.Segment.{Segment}
use Rattle.lay_lines.specs.declared.content.content.LineFloat.{LineFloat}
use Rattle.lay_lines.specs.declared.content.content.Stretch.{Stretch}
use Rattle.lay_lines.specs.declared.content.frame.Frame.{Frame}
use Rattle.lay_lines.specs.Filling.{Fills}
use Rattle.lay_lines.specs.Meeting.{Meets, State}
use Rattle.lay_line_measures.specs.declared.container.Container.{Container}
use Rattle.lay_line_measures.specs.BoxMeasuresValue.{BoxMeasuresValue}
use Rattle.lay_line_measures.specs.Stretches.{floats_at, floats_of, heads_of, is_line_content, stretches_of}
use Rattle.lay_flow_boxes.specs.Words.LinesAlone.{HaveNoFloats, IsNoFloat}

same_left : (u v : ℤ) → u ≡ v → u ≤ℤ v
same_left u v e = omega (arith, ints, e)

same_right : (u v : ℤ) → u ≡ v → v ≤ℤ u
same_right u v e = omega (arith, ints, e)

-- where no float is next to a line, it has all room
pub whole_room : (floats : List Placed) (y h from to : ℤ) → IsAlone floats y h → IsRoom floats y h from to from to
whole_room floats y h from to alone = record {
  start_is = record { one_of = inl refl; most = left };
  end_is = record { one_of = inl refl; least = right };
}
  where
    left : (u : ℤ) → LeftBounds floats y h from u → u ≤ℤ from
    left u (inl e) = same_left u from e
    left u (inr w) = absurd (alone w.0 w.1 w.2 w.3.1)

    right : (u : ℤ) → RightBounds floats y h to u → to ≤ℤ u
    right u (inl e) = same_right u to e
    right u (inr w) = absurd (alone w.0 w.1 w.2 w.3.1)

-- no stretch has floats
abbrev pub HaveNone : List Stretch → Type 0
HaveNone ss = (k : ℕ) (s : Stretch) → slice_get ss k ≡ Some s → (s.heads ≡ []) × (s.floats ≡ [])

none_at : (m : BoxMeasuresValue) (c : Container) (x : Item) → IsNoFloat x → floats_at m c x ≡ []
none_at m c (item.Text k text mode widths) is = refl
none_at m c (item.Start k takes) is = refl
none_at m c (item.End k) is = refl
none_at m c (item.Atomic k mode) is = refl
none_at m c (item.Float k) is = absurd is
none_at m c (item.Anchor k) is = refl

either_none : (b : Bool) (fs : List LineFloat) → fs ≡ [] → (if b then fs else []) ≡ []
either_none true fs e = e
either_none false fs e = refl

other_none : (b : Bool) (fs : List LineFloat) → fs ≡ [] → (if b then [] else fs) ≡ []
other_none true fs e = refl
other_none false fs e = e

no_heads : (m : BoxMeasuresValue) (c : Container) (ahead : Bool) (xs : List Item) → All IsNoFloat xs → heads_of m c ahead xs ≡ []
no_heads m c ahead [] are = refl
no_heads m c ahead (x ∷ xs) are =
    ap (λ (fs : List LineFloat). fs ++ heads_of m c (ahead && not (is_line_content x)) xs)
    (either_none ahead (floats_at m c x) (none_at m c x (All-head IsNoFloat x xs are)))
    ∙ no_heads m c (ahead && not (is_line_content x)) xs (All-tail IsNoFloat x xs are)

no_others : (m : BoxMeasuresValue) (c : Container) (ahead : Bool) (xs : List Item) → All IsNoFloat xs → floats_of m c ahead xs ≡ []
no_others m c ahead [] are = refl
no_others m c ahead (x ∷ xs) are =
    ap (λ (fs : List LineFloat). fs ++ floats_of m c (ahead && not (is_line_content x)) xs)
    (other_none ahead (floats_at m c x) (none_at m c x (All-head IsNoFloat x xs are)))
    ∙ no_others m c (ahead && not (is_line_content x)) xs (All-tail IsNoFloat x xs are)

pub none_in : (m : BoxMeasuresValue) (c : Container) (begins : Bool) (ss : List Segment) → HaveNoFloats ss
    → HaveNone (stretches_of m c begins ss)
none_in m c begins [] are k t is = absurd (let w = slice_get_within [] k t is in omega (arith, w))
none_in m c begins (s ∷ ss) are zero t is =
    let none = All-head (λ (s : Segment). All IsNoFloat s.items) s ss are in
    subst (λ (u : Stretch). (u.heads ≡ []) × (u.floats ≡ [])) (same_Some _ t is)
    (no_heads m c begins s.items none, no_others m c begins s.items none)
none_in m c begins (s ∷ ss) are (suc k) t is = none_in m c s.forced ss (All-tail (λ (s : Segment). All IsNoFloat s.items) s ss are) k t is

-- nothing is met
pub meets_none : (fr : Frame) (y : ℤ) (ss : List Stretch) (k : ℕ) (fs : List LineFloat) (st after : State)
    → fs ≡ [] → Meets fr y ss k fs st after → after ≡ st
meets_none fr y ss k fs st after e met = subst (λ (gs : List LineFloat). Meets fr y ss k gs st after) e met

pub fills_none : (fr : Frame) (y : ℤ) (ss : List Stretch) (n : ℕ) (st after : State) → HaveNone ss → Fills fr y ss n st after → after ≡ st
fills_none fr y ss zero st after none fills = fills
fills_none fr y ss (suc k) st after none fills =
    let step = fills.2 in
    meets_none fr y ss (suc k) step.stretch.floats fills.0 after (none k step.stretch step.is).1 step.meets
    ∙ fills_none fr y ss k st fills.0 none fills.1
