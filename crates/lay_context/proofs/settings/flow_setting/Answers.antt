use Rattle.lay_context.proofs.FlowSettings.{setting_inside}
use Rattle.lay_context.proofs.settings.flow_setting.Goals as goal

pub returns-clause-setting : goal.returns-clause-setting
returns-clause-setting g c =
    let at = c.args.ready.now.at in
    rw (c.setting_in.ensures.setting, c.boxes-boxes.ensures, c.at.ensures.context, c.sizes-sized.ensures, c.outer.ensures, c.outer-2.ensures, c.outer_box.ensures, c.formatting_context-context.ensures.context)
    (setting_inside c.args.medium.now.viewport at.contexts.now (g.V.Values.workings at.known.now).sizes at.number c.if-at-eq0.false)
