use Rattle.std.proofs.Common.{◌≡◌, ◌∙◌, ap, sym, subst, length, Some}
use Rattle.std.specs.BTreeMap.{get}
use Rattle.std.specs.Ordering.{nat_cmp}
use Rattle.lay_box_tree.specs.InlineParts.{id_at}
use Rattle.lay_box_tree.specs.LatestParts.{IsLatest}
use Rattle.lay_box_tree.proofs.PartEnds.{is-last}
use Rattle.lay_box_tree.proofs.inline_part.is_last_part.Goals as goal

pub returns-in-Some : goal.returns-in-Some
returns-in-Some c =
    let boxes = c.args.boxes.now in
    let k = c.args.k in
    let found : Some c.in-Some.last ≡ get nat_cmp c.args.latest.now (id_at boxes k) = c.in-Some.ensures ∙ ap (get nat_cmp c.args.latest.now) c.id_at.ensures in
    is-last boxes k (Some c.in-Some.last) c.requires.within (sym c.is_inline_at.ensures ∙ c.if-not-is_inline_at.false)
    (subst (IsLatest boxes (length boxes) (id_at boxes k)) (sym found) (c.requires.latest (id_at boxes k)))
