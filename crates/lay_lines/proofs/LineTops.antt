-- Where the next line may begin.
use Rattle.std.proofs.Common.{◌≡◌, inl, inr, ℕ, zero, suc, ℤ, ◌≤ℤ◌, ◌<ℤ◌, List, slice_get, Some, arith}
use Rattle.std.proofs.lemmas.Int.{ints, by_lt_z}
use Rattle.lay_floats.specs.declared.placed.Placed.{Placed}
use Rattle.lay_floats.specs.Room.{LeftBounds, RightBounds}
use Rattle.lay_floats.specs.Standing.{IsNext}
use Rattle.lay_floats.specs.Beside.{IsNextBottom}
use Rattle.lay_floats.proofs.FirstPlace.{next_further_down}
use Rattle.lay_lines.specs.declared.content.content.Stretch.{Stretch}
use Rattle.lay_lines.specs.declared.content.frame.Frame.{Frame}
use Rattle.lay_lines.specs.Content.Pens.{strut_height}
use Rattle.lay_lines.proofs.ContentLemmas.PenOrder.{pen_before}
use Rattle.lay_lines.specs.Meeting.{IsLineRoom}
use Rattle.lay_lines.specs.Filling.{HasFit, Begins}

-- Between a top and the next bottom of a float beside it nothing gets free: where nothing fits at the top, a
-- line may begin at the next bottom first.
pub no_line_higher : (fr : Frame) (y b z : ℤ) (ss : List Stretch) (floats : List Placed) → ((a : ℤ) × (e : ℤ) × IsLineRoom fr y floats a e) → (HasFit fr y ss (suc zero) floats → ⊥)
    → IsNextBottom floats y (strut_height fr) b → Begins fr z ss floats → y ≤ℤ z → b ≤ℤ z
no_line_higher fr y b z ss floats room not next begins down = by_lt_z z b (λ above. absurd (stuck above begins)) (λ le. le)
  where
    still : z <ℤ b → (i : ℕ) (f : Placed) → slice_get floats i ≡ Some f → IsNext y (strut_height fr) f → IsNext z (strut_height fr) f
    still above i f is n = let low = next.above_each i f is n in next_further_down y z (strut_height fr) f down (omega (arith, ints)) n

    left_there : z <ℤ b → (u : ℤ) → LeftBounds floats y (strut_height fr) fr.left.0 u → LeftBounds floats z (strut_height fr) fr.left.0 u
    left_there above u (inl is) = inl is
    left_there above u (inr w) = inr (w.0, w.1, w.2, (w.3.0, still above w.0 w.1 w.2 w.3.1, w.3.2))

    right_there : z <ℤ b → (u : ℤ) → RightBounds floats y (strut_height fr) fr.right.0 u → RightBounds floats z (strut_height fr) fr.right.0 u
    right_there above u (inl is) = inl is
    right_there above u (inr w) = inr (w.0, w.1, w.2, (w.3.0, still above w.0 w.1 w.2 w.3.1, w.3.2))

    stuck : z <ℤ b → Begins fr z ss floats → ⊥
    stuck above (inl fit) =
        let left_of = fit.2.start_is.most room.0 (left_there above room.0 room.2.start_is.one_of) in
        let right_of = fit.2.end_is.least room.1 (right_there above room.1 room.2.end_is.one_of) in
        let order = (pen_before fr room.0 fit.0 ss (suc zero) left_of).visible in
        let le = fit.3 in
        not (room.0, room.1, room.2, omega (arith, ints, le, right_of, order))
    stuck above (inr alone) = let w = next.one_of in alone w.0 w.1 w.2 (still above w.0 w.1 w.2 w.3.0)
