use Rattle.std.proofs.Common.{ap₂, ◌∙◌}
use Rattle.std.proofs.lemmas.Result.{IfOk-weaker}
use Rattle.clap.specs.Words.{with_rule}
use Rattle.lay_words.proofs.command.run.Goals as goal

pub returns-clause-app : goal.returns-clause-app
returns-clause-app c = IfOk-weaker c.arg.result _ _ (λ x h. h.shape c.option.ensures.local ∙ ap₂ with_rule c.plain.ensures.app c.option.ensures.rule) c.arg.ensures

pub returns-clause-local : goal.returns-clause-local
returns-clause-local c = IfOk-weaker c.arg.result _ _ (λ x h. rw (c.plain.ensures.local, c.option.ensures.local) at h.globals) c.arg.ensures
