use Rattle.std.proofs.Common.{◌≡◌, ◌++◌, ◌∷◌, [], ◌∙◌, sym, rules}
use Rattle.lay_abspos.proofs.RelativeLemmas.Nearest.{passed, pushed}
use Rattle.lay_abspos.proofs.relative.former_parent.note_open.Goals as goal

pub returns-in_ok-push : goal.returns-in_ok-push
returns-in_ok-push c =
    let xs = c.args.parts.now.items in
    let longer : c.push.new.self.items ≡ xs ++ c.args.k ∷ [] = search rules in
    rw longer (pushed c.args.boxes.now c.args.k xs (sym c.is_inline_at.ensures ∙ c.if-is_inline_at.true) c.requires.before)

pub returns-else-is_inline_at : goal.returns-else-is_inline_at
returns-else-is_inline_at c = passed c.args.boxes.now c.args.k c.args.parts.now.items (sym c.is_inline_at.ensures ∙ c.if-is_inline_at.false) c.requires.before
