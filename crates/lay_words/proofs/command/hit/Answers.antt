use Rattle.std.proofs.Common.{◌≡◌, ap₂, ◌∙◌, codes, false}
use Rattle.std.proofs.lemmas.Result.{IfOk-weaker}
use Rattle.clap.specs.Words.{app_of, with_rule}
use Rattle.clap.specs.declared.builder.command.Command.TheViews.{out-Command as fields_of}
use Rattle.lay_words.specs.Command.{option_given, plain}
use Rattle.lay_words.proofs.command.hit.Goals as goal

pub returns-clause-app : goal.returns-clause-app
returns-clause-app c =
    let across : app_of c.in_ok-arg.field-0 ≡ with_rule (plain (codes "hit")) (option_given (codes "x")) = c.in_ok-arg.ensures.shape c.option.ensures.local ∙ ap₂ with_rule c.plain.ensures.app c.option.ensures.rule in
    IfOk-weaker c.arg-2.result _ _ (λ x h. h.shape c.option-2.ensures.local ∙ ap₂ with_rule across c.option-2.ensures.rule) c.arg-2.ensures

pub returns-clause-local : goal.returns-clause-local
returns-clause-local c =
    let across : (fields_of c.in_ok-arg.field-0).has_globals ≡ false = rw (c.plain.ensures.local, c.option.ensures.local) at c.in_ok-arg.ensures.globals in
    IfOk-weaker c.arg-2.result _ _ (λ x h. rw (across, c.option-2.ensures.local) at h.globals) c.arg-2.ensures
