use Rattle.std.proofs.Common.{◌≡◌, ◌<◌, inl, inr, false, refl, arith}
use Rattle.std.proofs.lemmas.Bool.{cases_lt}
use Rattle.lay_lines.proofs.ContentLemmas.Outcomes.{not_both}
use Rattle.lay_lines.proofs.Steps.{first_alone, later_none, fit_at, fit_of}
use Rattle.lay_lines.proofs.taking.is_taken.Goals as goal

pub returns-then-fits : goal.returns-then-fits
returns-then-fits c =
    let k = c.args.reach.now.count in (
      (λ t. inl (fit_at c.args.line.now.frame c.args.line.now.top.0 c.args.line.now.stretches.now k c.args.next.now.count c.args.floats.now c.requires.count (c.if-fits.ensures.0 refl))),
      (λ h. refl),
    )

pub returns-then-is_zero : goal.returns-then-is_zero
returns-then-is_zero c =
    let fr = c.args.line.now.frame in
    let y = c.args.line.now.top.0 in
    let ss = c.args.line.now.stretches.now in
    let k = c.args.reach.now.count in
    let floats = c.args.floats.now in
    let zero = c.if-is_zero.ensures.0 refl in (
      (λ t. inr (inl (zero, c.is_alone.ensures.0 t))),
      (λ h. c.is_alone.ensures.1 (first_alone fr y ss k floats (λ fit. not_both false (c.if-fits.ensures.1 (fit_of fr y ss k c.args.next.now.count floats c.requires.count fit)) refl) zero h)),
    )

pub returns : goal.returns
returns c =
    let fr = c.args.line.now.frame in
    let y = c.args.line.now.top.0 in
    let ss = c.args.line.now.stretches.now in
    let k = c.args.reach.now.count in
    let floats = c.args.floats.now in
    let some = λ (e : k ≡ 0). not_both false (c.if-is_zero.ensures.1 e) refl in
    let later : 0 < k = elim (cases_lt 0 k) [
      | inl low ↦ low
      | inr least ↦ absurd (some (omega (arith, least)))
    ] in (
      (λ t. inr (inr (later, c.takes_no_room.ensures.0 t))),
      (λ h. c.takes_no_room.ensures.1 (later_none fr y ss k floats (λ fit. not_both false (c.if-fits.ensures.1 (fit_of fr y ss k c.args.next.now.count floats c.requires.count fit)) refl) some h)),
    )
