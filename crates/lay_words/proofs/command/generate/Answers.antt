use Rattle.std.proofs.Common.{◌≡◌, ap₂, ◌∙◌, codes, false}
use Rattle.std.proofs.lemmas.Result.{IfOk-weaker}
use Rattle.clap.specs.Words.{app_of, with_rule}
use Rattle.clap.specs.declared.builder.command.Command.TheViews.{out-Command as fields_of}
use Rattle.lay_words.specs.Command.{option_given, plain}
use Rattle.lay_words.proofs.command.generate.Goals as goal

pub returns-clause-app : goal.returns-clause-app
returns-clause-app c =
    let sized : app_of c.in_ok-arg.field-0 ≡ with_rule (plain (codes "gen")) (option_given (codes "size")) = c.in_ok-arg.ensures.shape c.option.ensures.local ∙ ap₂ with_rule c.plain.ensures.app c.option.ensures.rule in
    let seeded = c.in_ok-arg-2.ensures.shape c.option-2.ensures.local ∙ ap₂ with_rule sized c.option-2.ensures.rule in
    IfOk-weaker c.arg-3.result _ _ (λ x h. h.shape c.option-3.ensures.local ∙ ap₂ with_rule seeded c.option-3.ensures.rule) c.arg-3.ensures

pub returns-clause-local : goal.returns-clause-local
returns-clause-local c =
    let sized : (fields_of c.in_ok-arg.field-0).has_globals ≡ false = rw (c.plain.ensures.local, c.option.ensures.local) at c.in_ok-arg.ensures.globals in
    let seeded : (fields_of c.in_ok-arg-2.field-0).has_globals ≡ false = rw (sized, c.option-2.ensures.local) at c.in_ok-arg-2.ensures.globals in
    IfOk-weaker c.arg-3.result _ _ (λ x h. rw (seeded, c.option-3.ensures.local) at h.globals) c.arg-3.ensures
