use Rattle.std.proofs.Common.{ap, ◌∙◌}
use Rattle.lay_units.specs.declared.length.Unit.{Unit as Length}
use Rattle.lay_style.specs.declared.style.Style.{Style}
use Rattle.lay_style.specs.ComputedStyle.{styled}
use Rattle.lay_style.specs.InitialStyle.{initial_style}
use Rattle.lay_inherit.proofs.style.computed_style.Goals as goal

pub returns : goal.returns
returns c =
    c.styled.ensures
    ∙ ap (λ (initial : Style). styled c.font_size-font.result c.args.parent.now initial c.args.decls.now) c.initial_style.ensures
    ∙ ap (λ (font : Length). styled font c.args.parent.now initial_style c.args.decls.now) c.font_size-font.ensures
