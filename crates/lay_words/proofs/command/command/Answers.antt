use Rattle.std.proofs.Common.{rules, ap, ap₂, ◌≡◌, ◌∙◌, codes}
use Rattle.std.proofs.lemmas.Result.{IfOk-weaker}
use Rattle.clap.specs.Words.{App, app_of, with_subcommand}
use Rattle.lay_words.specs.Command.{gen_app, plain, run_app, strict, with_options}
use Rattle.lay_words.proofs.command.command.Goals as goal

pub returns : goal.returns
returns c =
    let top_is : app_of c.subcommand_required.result ≡ strict = search rules in
    let run_is : app_of c.in_ok-subcommand.field-0 ≡ with_subcommand strict run_app.top =
    c.in_ok-subcommand.ensures.shape c.in_ok-run.ensures.local ∙ ap₂ with_subcommand top_is (ap (λ (a : App). a.top) c.in_ok-run.ensures.app) in
    let gen_is : app_of c.in_ok-subcommand-2.field-0 ≡ with_subcommand (with_subcommand strict run_app.top) gen_app.top =
    c.in_ok-subcommand-2.ensures.shape c.in_ok-generate.ensures.local ∙ ap₂ with_subcommand run_is (ap (λ (a : App). a.top) c.in_ok-generate.ensures.app) in
    let hit_is : app_of c.in_ok-subcommand-3.field-0 ≡ with_options =
    c.in_ok-subcommand-3.ensures.shape c.in_ok-hit.ensures.local ∙ ap₂ with_subcommand gen_is (ap (λ (a : App). a.top) c.in_ok-hit.ensures.app) in
    let check_is : app_of c.in_ok-subcommand-4.field-0 ≡ with_subcommand with_options (plain (codes "check")).top =
    c.in_ok-subcommand-4.ensures.shape c.plain.ensures.local ∙ ap₂ with_subcommand hit_is (ap (λ (a : App). a.top) c.plain.ensures.app) in
    IfOk-weaker c.subcommand-5.result _ _ (λ x h. h.shape c.plain-2.ensures.local ∙ ap₂ with_subcommand check_is (ap (λ (a : App). a.top) c.plain-2.ensures.app)) c.subcommand-5.ensures
