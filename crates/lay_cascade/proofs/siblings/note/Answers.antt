use Rattle.std.proofs.Common.{◌≡◌, ◌<◌, true, false, rules, arith, inl, inr}
use Rattle.std.proofs.lemmas.Grind.{common_steps}
use Rattle.lay_doc.specs.Document.{is_text_at}
use Rattle.lay_cascade.proofs.Adjacent.{root_or_text, last_set, parent_within}
use Rattle.lay_cascade.proofs.siblings.note.Goals as goal
use Rattle.lay_cascade.proofs.siblings.note.Goals.{then-place-eq0-via-then-place-eq0, then-place-eq0-via-else-place-eq0+then-is_text_at}

pub returns-then-place-eq0 : goal.returns-then-place-eq0
returns-then-place-eq0 c =
    elim c.then-place-eq0.branch [
      | then-place-eq0-via-then-place-eq0 w ↦ (let root : c.args.place ≡ 0 = first_of (search rules, grind (arith, common_steps)) in root_or_text c.args.nodes.now c.args.place c.args.last.now.items c.requires.last (inl root))
      | then-place-eq0-via-else-place-eq0+then-is_text_at w ↦ (let text : is_text_at c.args.nodes.now c.args.place ≡ true = first_of (search rules, grind (arith, common_steps)) in root_or_text c.args.nodes.now c.args.place c.args.last.now.items c.requires.last (inr text))
    ]

pub returns : goal.returns
returns c =
    let below_root : 0 < c.args.place = first_of (search rules, grind (arith, common_steps)) in
    let no_text : is_text_at c.args.nodes.now c.args.place ≡ false = first_of (search rules, grind (arith, common_steps)) in
    let within = parent_within c.args.nodes.now c.args.place c.requires.tree c.requires.place below_root in
    rw c.parent_at-parent.ensures (last_set c.args.nodes.now c.args.place c.args.last.now.items c.requires.last below_root within no_text)
