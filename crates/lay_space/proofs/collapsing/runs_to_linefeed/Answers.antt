use Rattle.std.proofs.Common.{◌∙◌, ap, sym}
use Rattle.std.proofs.lemmas.Str.{IsUtf8-past_char, chars_past_char}
use Rattle.lay_space.specs.WhiteSpace.{runs_to_linefeed}
use Rattle.lay_space.proofs.Rows.{chars_none, runs_on, runs_stop}
use Rattle.lay_space.proofs.collapsing.runs_to_linefeed.Goals as goal

pub returns-then-not-is_blank : goal.returns-then-not-is_blank
returns-then-not-is_blank c =
    runs_stop _ _ _ _ (chars_past_char _ _ _ c.loop-c.invariant.2 c.in-Some.ensures.steps.0) c.if-not-is_blank.ensures c.loop-c.invariant.3

pub loop-c-preserved : goal.loop-c-preserved
loop-c-preserved c = (
  tt,
  tt,
  IsUtf8-past_char _ _ _ c.loop-c.invariant.2 c.in-Some.ensures.steps.0,
  runs_on _ _ _ _ (chars_past_char _ _ _ c.loop-c.invariant.2 c.in-Some.ensures.steps.0) c.if-not-is_blank.ensures c.loop-c.invariant.3,
)

pub returns : goal.returns
returns c = ap runs_to_linefeed (sym (chars_none _ c.in-None.ensures.steps.0.0)) ∙ c.loop-c.invariant.3
