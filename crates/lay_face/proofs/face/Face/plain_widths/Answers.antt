use Rattle.std.proofs.Common.{◌∙◌}
use Rattle.lay_face.proofs.PlainTexts.{plain_end, plain_next}
use Rattle.lay_face.proofs.face.Face.plain_widths.Goals as goal

pub returns : goal.returns
returns c = c.new.ensures ∙ plain_end c.args.self.now c.args.setting _ c.loop-k.k _ c.loop-k-test.false c.requires.plain c.loop-k.invariant

pub plain_width-width-requires-clause-width : goal.plain_width-width-requires-clause-width
plain_width-width-requires-clause-width c =
    plain_next c.args.self.now c.args.setting _ c.loop-k.k _ _ c.loop-k-test.true c.requires.plain c.loop-k.invariant c.requires.fits.widths
