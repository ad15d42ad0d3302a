-- Floats of a line that can't be finished are the first ones of those that it would have.
use Rattle.std.proofs.Common.{◌≡◌, ◌∙◌, inl, inr, ℕ, suc, ◌+◌, ◌<◌, ℤ, List, [], ◌∷◌, length, slice_get, Some, sym, ap, subst, arith}
use Rattle.std.proofs.lemmas.Bool.{cases_lt}
use Rattle.std.proofs.lemmas.Option.{same_Some}
use Rattle.lay_floats.specs.declared.placed.Placed.{Placed}
use Rattle.lay_floats.specs.FloatPlace.{placed_at}
use Rattle.lay_floats.specs.Laws.{OneFloatPlace}
use Rattle.lay_lines.specs.declared.content.frame.Frame.{Frame}
use Rattle.lay_lines.specs.declared.content.content.LineFloat.{LineFloat}
use Rattle.lay_lines.specs.declared.content.content.Stretch.{Stretch}
use Rattle.lay_lines.specs.Meeting.{State, IsFront, MeetsFloat, MeetsAt, MeetsTo, Meets}
use Rattle.lay_lines.specs.Meeting.MeetsFloat.{stands, waits}
use Rattle.lay_lines.specs.Filling.{FitsNext, TakesNext, Fills, FitsAll, Reaches, Takes}
use Rattle.lay_lines.proofs.Chains.{chain_one, chain_cut, chain_keeps, all_front, front_trans}
use Rattle.lay_lines.proofs.Steps.{Unforced, all_fit, one_meets_at, one_takes_next}

abbrev pub floats_of : State → List Placed
floats_of s = s.floats

-- a float that is met comes after those that stand
pub met_front : (fr : Frame) (y : ℤ) (ss : List Stretch) (k : ℕ) (st : State) (f : LineFloat) (after : State) → MeetsFloat fr y ss k st f after → IsFront st.floats after.floats
met_front fr y ss k st f after (stands x z may e) = (placed_at f.req x z ∷ [], ap (λ (s : State). s.floats) e)
met_front fr y ss k st f after (waits seen not e) = all_front _ _ (sym (ap (λ (s : State). s.floats) e))

pub met_at_front : (fr : Frame) (y : ℤ) (ss : List Stretch) (k : ℕ) (fs : List LineFloat) (j : ℕ) (a b : State) → MeetsAt fr y ss k fs j a b → IsFront a.floats b.floats
met_at_front fr y ss k fs j a b m = met_front fr y ss k a m.0 b m.2

pub meets_front : (fr : Frame) (y : ℤ) (ss : List Stretch) (k : ℕ) (fs : List LineFloat) (a b : State) → Meets fr y ss k fs a b → IsFront a.floats b.floats
meets_front fr y ss k fs a b m = chain_keeps floats_of (MeetsAt fr y ss k fs) (met_at_front fr y ss k fs) (length fs) a b m

pub taken_front : (fr : Frame) (y : ℤ) (ss : List Stretch) (k : ℕ) (a b : State) → TakesNext fr y ss k a b → IsFront a.floats b.floats
taken_front fr y ss k a b t = meets_front fr y ss (suc k) t.stretch.floats a b t.meets

-- where the j-th float can't be met, the floats that stand are a front of those that all would make
pub meets_stopped : OneFloatPlace → (fr : Frame) (y : ℤ) (ss : List Stretch) (k : ℕ) (fs : List LineFloat) (st now after : State) (j : ℕ) (f : LineFloat) (left : List Placed) → MeetsTo fr y ss k fs j st now → j < length fs
    → slice_get fs j ≡ Some f → ((next : State) → MeetsFloat fr y ss k now f next → IsFront left next.floats) → Meets fr y ss k fs st after → IsFront left after.floats
meets_stopped one fr y ss k fs st now after j f left so_far lt is stopped all =
    let w = chain_cut floats_of (MeetsAt fr y ss k fs) (met_at_front fr y ss k fs) (length fs) j st after lt all in
    let e = chain_one (MeetsAt fr y ss k fs) (one_meets_at one fr y ss k fs) j st w.0 now w.2 so_far in
    let g : w.3.0 ≡ f = same_Some _ _ (sym w.3.1 ∙ is) in
    let here = subst (λ (h : LineFloat). MeetsFloat fr y ss k now h w.1) g (subst (λ (s : State). MeetsFloat fr y ss k s w.3.0 w.1) e w.3.2) in
    front_trans left w.1.floats after.floats (stopped w.1 here) w.4

pub take_stopped : OneFloatPlace → (fr : Frame) (y : ℤ) (ss : List Stretch) (st now after : State) (k n : ℕ) (left : List Placed) → k < length ss → Unforced ss k → FitsAll fr y ss st k → Fills fr y ss k st now
    → FitsNext fr y ss k now.floats → ((next : State) → TakesNext fr y ss k now next → IsFront left next.floats) → Takes fr y ss st n → Fills fr y ss n st after → IsFront left after.floats
take_stopped one fr y ss st now after k n left within unforced fits fills fit stopped takes all =
    let can : Reaches ss (k + 1) = record { within = omega (arith, within); last = λ j t less e. unforced j t (omega (arith, less)) e } in
    let less : k < n = elim (cases_lt k n) [
      | inl low ↦ low
      | inr high ↦ absurd (takes.most (k + 1) (omega arith) can (all_fit fr y ss st now k fits fills fit))
    ] in
    let w = chain_cut floats_of (TakesNext fr y ss) (taken_front fr y ss) n k st after less all in
    let e = chain_one (TakesNext fr y ss) (one_takes_next one fr y ss) k st w.0 now w.2 fills in
    front_trans left w.1.floats after.floats (stopped w.1 (subst (λ (z : State). TakesNext fr y ss k z w.1) e w.3)) w.4
