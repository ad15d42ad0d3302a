use Rattle.std.proofs.Common.{◌∙◌, sym}
use Rattle.lay_space.proofs.CleanTexts.{clean_stays}
use Rattle.lay_space.proofs.collapsing.collapsed.Goals as goal

pub returns-in_ok-from_str-in-Some-clause-text : goal.returns-in_ok-from_str-in-Some-clause-text
returns-in_ok-from_str-in-Some-clause-text c =
    let is = rw c.as_bytes.ensures.value at c.in-Some.ensures in
    c.in_ok-from_str-in-Some.ensures.ok ∙ (clean_stays c.args.mode c.args.after_space _ is.0).0

pub returns-in_ok-from_str-in-Some-clause-space : goal.returns-in_ok-from_str-in-Some-clause-space
returns-in_ok-from_str-in-Some-clause-space c =
    let is = rw c.as_bytes.ensures.value at c.in-Some.ensures in
    is.1 ∙ sym (clean_stays c.args.mode c.args.after_space _ is.0).1
