-- What is seen as it stands: a run of bytes that begin nothing else.
use Rattle.std.proofs.Common.{◌≡◌, ◌<◌, ◌≤◌, ℕ, zero, suc, refl, false, List, [], ◌∷◌, ◌++◌, length, take, drop, slice_index, arith}
use Rattle.std.proofs.lemmas.Grind.{common_steps}
use Rattle.lay_sheet.specs.PlainText.{may_open, plain_text}

-- n bytes of a window of so many bytes
pub plain-run : (text : List ℕ) (window n : ℕ) → n ≤ length (take window text) → ((k : ℕ) → k < n → may_open (slice_index (take window text) k) ≡ false) →
    plain_text text ≡ take n text ++ plain_text (drop n text)
plain-run text window zero within none = refl
plain-run [] zero (suc n) within none = absurd (omega (arith, within))
plain-run [] (suc window) (suc n) within none = absurd (omega (arith, within))
plain-run (b ∷ bs) zero (suc n) within none = absurd (omega (arith, within))
plain-run (b ∷ bs) (suc window) (suc n) within none =
    let first : may_open b ≡ false = none zero (omega arith) in
    grind (arith, common_steps, first, plain-run bs window n (omega (arith, within)) (λ k below. none (suc k) (omega (arith, below))))
