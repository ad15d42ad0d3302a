use Rattle.lay_sheet.proofs.Utf8Texts.{named_is}
use Rattle.lay_sheet.proofs.declaration.named.Goals as goal

pub returns-in-Some : goal.returns-in-Some
returns-in-Some c =
    let read = c.in-Some.ensures in
    named_is c.args.important c.args.name.now c.args.value.now read.small c.in-Some.decl read.decl read.name read.text
