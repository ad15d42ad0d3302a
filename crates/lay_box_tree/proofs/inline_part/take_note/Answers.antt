use Rattle.std.proofs.Common.{◌≡◌, ◌∙◌, ap, sym, subst}
use Rattle.std.specs.BTreeMap.{get}
use Rattle.std.specs.Ordering.{nat_cmp}
use Rattle.lay_box_tree.specs.InlineParts.{id_at}
use Rattle.lay_box_tree.specs.LatestParts.{IsLatest}
use Rattle.lay_box_tree.proofs.PartEnds.{is-first, no-part, noted, one-more}
use Rattle.lay_box_tree.proofs.inline_part.take_note.Goals as goal

pub returns-then-not-is_inline_at-clause-after : goal.returns-then-not-is_inline_at-clause-after
returns-then-not-is_inline_at-clause-after c = λ id.
    one-more c.args.boxes.now c.args.k id (get nat_cmp c.args.latest.now id) (c.requires.before id)
    (no-part c.args.boxes.now id c.args.k (sym c.is_inline_at.ensures ∙ c.if-not-is_inline_at.true))

pub returns-clause-first : goal.returns-clause-first
returns-clause-first c =
    let boxes = c.args.boxes.now in
    let k = c.args.k in
    let was : c.in_ok-earlier.earlier ≡ get nat_cmp c.args.latest.now (id_at boxes k) =
    c.in_ok-earlier.ensures.earlier ∙ ap (get nat_cmp c.args.latest.now) c.id_at.ensures in
    is-first boxes k c.in_ok-earlier.earlier c.is_none.result (sym c.is_inline_at.ensures ∙ c.if-not-is_inline_at.false)
    (subst (IsLatest boxes k (id_at boxes k)) (sym was) (c.requires.before (id_at boxes k))) c.is_none.ensures

pub returns-clause-after : goal.returns-clause-after
returns-clause-after c =
    let boxes = c.args.boxes.now in
    let k = c.args.k in
    noted boxes k (get nat_cmp c.args.latest.now) (get nat_cmp c.put_latest.new.latest) (sym c.is_inline_at.ensures ∙ c.if-not-is_inline_at.false) c.requires.before
    (ap (get nat_cmp c.put_latest.new.latest) (sym c.id_at.ensures) ∙ c.in_ok-earlier.ensures.here)
    (λ q ne. c.in_ok-earlier.ensures.others q (λ e. ne (e ∙ c.id_at.ensures)))
