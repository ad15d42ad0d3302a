use Rattle.std.proofs.Common.{◌≡◌, ◌+◌, ◌∙◌, ℕ, suc, take, Bool, true, false, List, Some, slice_set, arith, ap}
use Rattle.std.proofs.lemmas.Option.{slice_get-get_or}
use Rattle.lay_kept_cells.specs.Settled.Since.{either}
use Rattle.lay_kept_cells.proofs.SettledLemmas.EitherFlags.{either_none, either_set, either_skip}
use Rattle.lay_kept_cells.proofs.settled.since.Since.also.Goals as goal
use Rattle.lay_kept_cells.proofs.settled.since.Since.also.Goals.{then-made-i, else-made-i}

pub loop-i-init : goal.loop-i-init
loop-i-init c = (ap (λ s. s.changed) c.self.view_is ∙ either_none c.args.self.now.changed, ap (λ s. s.number) c.self.view_is)

pub loop-i-preserved : goal.loop-i-preserved
loop-i-preserved c =
    let more : suc c.loop-i.i ≡ c.loop-i.i + 1 = omega arith in
    let at = slice_get-get_or c.args.made.now c.loop-i.i false c.loop-i-test.true in
    let onward = ap (λ (n : ℕ). either c.args.self.now.changed (take n c.args.made.now)) more in
    elim c.if-made-i.branch [
      | then-made-i w ↦ (
        ap (λ s. s.changed.items) w.self-inside-is ∙ ap (λ (bs : List Bool). slice_set bs c.loop-i.i true) c.loop-i.invariant.0
            ∙ either_set c.args.self.now.changed c.args.made.now c.loop-i.i c.requires (at ∙ ap Some w.if-made-i.true) ∙ onward,
        ap (λ s. s.number) w.self-inside-is ∙ c.loop-i.invariant.1,
      )
      | else-made-i w ↦ (
        ap (λ s. s.changed.items) w.self-inside-is ∙ c.loop-i.invariant.0
            ∙ either_skip c.args.self.now.changed c.args.made.now c.loop-i.i c.requires (at ∙ ap Some w.if-made-i.false) ∙ onward,
        ap (λ s. s.number) w.self-inside-is ∙ c.loop-i.invariant.1,
      )
    ]
