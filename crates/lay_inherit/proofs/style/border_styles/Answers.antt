use Rattle.std.proofs.Common.{rules, ◌≡◌, false, sym}
use Rattle.std.specs.List.{list_any}
use Rattle.lay_inherit.specs.Within.{is_within}
use Rattle.lay_inherit.proofs.Undeclared.{no_border_styles}
use Rattle.lay_inherit.proofs.style.border_styles.Goals as goal

pub returns-then-not-declares : goal.returns-then-not-declares
returns-then-not-declares c =
    let own = c.args.own.now in
    let none : list_any (is_within 27 30) own.decls.now ≡ false = search rules in
    sym (no_border_styles own.font own.decls.now c.args.parent.now c.args.initial.now none)
