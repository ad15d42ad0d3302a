-- One more track.
use Rattle.std.proofs.Common.{◌≡◌, ℕ, ◌+◌, ◌<◌, List, [], ◌∷◌, ◌++◌, length-append, sym, ap, ◌∙◌, subst, arith, inl, inr}
use Rattle.std.proofs.Math.ListN.{get_or-append}
use Rattle.std.proofs.Math.Seq.{get_or-append_seam}
use Rattle.std.proofs.lemmas.Bool.{cases_lt}
use Rattle.lay_units.specs.declared.length.Unit.{Unit as Length}
use Rattle.lay_units.specs.Units.{IsNear}
use Rattle.lay_units.specs.Lengths.{no_length}
use Rattle.lay_flow.specs.Blocks.Lengths.{length_at}
use Rattle.lay_table.specs.Tracks.{Tracks, start_of}
use Rattle.lay_table.specs.TrackStarts.{AreStarts}

pub starts_more : (t : Tracks) (n : ℕ) (starts : List Length) (u : Length) → AreStarts t n starts → u.0 ≡ start_of t (n + 1) → IsNear u.0 → AreStarts t (n + 1) (starts ++ u ∷ [])
starts_more t n starts u are is near = record {
  count = (let counted = are.count in rw (length-append, counted) (omega arith));
  each = λ k le. elim (cases_lt k (n + 1)) [
    | inl low ↦ old k low ∙ are.each k (omega (arith, low))
    | inr high ↦ (let q : k ≡ n + 1 = omega (arith, high, le) in subst (λ (j : ℕ). length_at (starts ++ u ∷ []) j ≡ start_of t j) (sym q) (new ∙ is))
  ];
  near = λ k le. elim (cases_lt k (n + 1)) [
    | inl low ↦ subst IsNear (sym (old k low)) (are.near k (omega (arith, low)))
    | inr high ↦ (let q : k ≡ n + 1 = omega (arith, high, le) in subst (λ (j : ℕ). IsNear (length_at (starts ++ u ∷ []) j)) (sym q) (subst IsNear (sym new) near))
  ];
}
  where
    old : (k : ℕ) → k < n + 1 → length_at (starts ++ u ∷ []) k ≡ length_at starts k
    old k low = ap (λ (v : Length). v.0) (get_or-append starts (u ∷ []) no_length k (omega (arith, low, are.count)))

    new : length_at (starts ++ u ∷ []) (n + 1) ≡ u.0
    new = subst (λ (j : ℕ). length_at (starts ++ u ∷ []) j ≡ u.0) are.count (ap (λ (v : Length). v.0) (get_or-append_seam starts u [] no_length))

pub first_start : (t : Tracks) (u : Length) → u.0 ≡ start_of t 0 → IsNear u.0 → AreStarts t 0 (u ∷ [])
first_start t u is near = record {
  count = omega arith;
  each = λ k le. (let q : k ≡ 0 = omega (arith, le) in subst (λ (j : ℕ). length_at (u ∷ []) j ≡ start_of t j) (sym q) is);
  near = λ k le. (let q : k ≡ 0 = omega (arith, le) in subst (λ (j : ℕ). IsNear (length_at (u ∷ []) j)) (sym q) near);
}
