use Rattle.std.proofs.lemmas.Result.{IfOk-weaker}
use Rattle.lay_positioned.proofs.SettingValues.{setting_value}
use Rattle.lay_positioned.proofs.settings.setting.Goals as goal

pub returns-clause-value : goal.returns-clause-value
returns-clause-value g c =
    IfOk-weaker c.found_setting.result _ _ (λ s is. setting_value c.args.viewport c.args.contexts.now (g.L.Layouts.laid c.args.layouts.now) c.args.i s c.at.ensures.are c.requires.within is) c.found_setting.ensures.setting
