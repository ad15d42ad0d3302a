use Rattle.std.proofs.Common.{◌≡◌, ◌∙◌, ap, sym, subst, None, Some}
use Rattle.std.specs.BTreeMap.{get}
use Rattle.std.specs.Ordering.{nat_cmp}
use Rattle.lay_box_tree.specs.InlineParts.{id_at}
use Rattle.lay_box_tree.specs.LatestParts.{IsLatest}
use Rattle.lay_abspos.proofs.Cited.{no-part, noted, one-more}
use Rattle.lay_abspos.proofs.RelativeLemmas.NextParts.{first-noted, further-noted, none-noted}
use Rattle.lay_abspos.proofs.relative.next_place.note_part.Goals as goal

pub returns-then-not-is_inline_at-clause-latest : goal.returns-then-not-is_inline_at-clause-latest
returns-then-not-is_inline_at-clause-latest c = λ id.
    one-more c.args.boxes.now c.args.k id (get nat_cmp c.args.latest.now id) (c.requires.latest id)
    (no-part c.args.boxes.now id c.args.k (sym c.is_inline_at.ensures ∙ c.if-not-is_inline_at.true))

pub returns-then-not-is_inline_at-clause-next : goal.returns-then-not-is_inline_at-clause-next
returns-then-not-is_inline_at-clause-next c = none-noted c.args.boxes.now c.args.next.now c.args.k (sym c.is_inline_at.ensures ∙ c.if-not-is_inline_at.true) c.requires.next

pub returns-in-Some-clause-latest : goal.returns-in-Some-clause-latest
returns-in-Some-clause-latest c =
    noted c.args.boxes.now c.args.k (get nat_cmp c.args.latest.now) (get nat_cmp c.put_latest.new.latest) (sym c.is_inline_at.ensures ∙ c.if-not-is_inline_at.false) c.requires.latest
    (ap (get nat_cmp c.put_latest.new.latest) (sym c.id_at.ensures) ∙ c.in_ok-place.ensures.here)
    (λ q ne. c.in_ok-place.ensures.others q (λ e. ne (e ∙ c.id_at.ensures)))

pub returns-in-None-clause-latest : goal.returns-in-None-clause-latest
returns-in-None-clause-latest c =
    noted c.args.boxes.now c.args.k (get nat_cmp c.args.latest.now) (get nat_cmp c.put_latest.new.latest) (sym c.is_inline_at.ensures ∙ c.if-not-is_inline_at.false) c.requires.latest
    (ap (get nat_cmp c.put_latest.new.latest) (sym c.id_at.ensures) ∙ c.in_ok-place.ensures.here)
    (λ q ne. c.in_ok-place.ensures.others q (λ e. ne (e ∙ c.id_at.ensures)))

pub returns-in-Some-clause-next : goal.returns-in-Some-clause-next
returns-in-Some-clause-next c =
    let boxes = c.args.boxes.now in
    let k = c.args.k in
    let was : Some c.in-Some.place ≡ get nat_cmp c.args.latest.now (id_at boxes k) =
    sym c.in-Some.is ∙ (c.in_ok-place.ensures.earlier ∙ ap (get nat_cmp c.args.latest.now) c.id_at.ensures) in
    further-noted boxes c.args.next.now k c.requires.within (sym c.is_inline_at.ensures ∙ c.if-not-is_inline_at.false) c.requires.next c.in-Some.place
    (subst (IsLatest boxes k (id_at boxes k)) (sym was) (c.requires.latest (id_at boxes k)))

pub returns-in-None-clause-next : goal.returns-in-None-clause-next
returns-in-None-clause-next c =
    let boxes = c.args.boxes.now in
    let k = c.args.k in
    let was : None ≡ get nat_cmp c.args.latest.now (id_at boxes k) =
    sym c.in-None.is ∙ (c.in_ok-place.ensures.earlier ∙ ap (get nat_cmp c.args.latest.now) c.id_at.ensures) in
    first-noted boxes c.args.next.now k c.requires.within (sym c.is_inline_at.ensures ∙ c.if-not-is_inline_at.false) c.requires.next
    (subst (IsLatest boxes k (id_at boxes k)) (sym was) (c.requires.latest (id_at boxes k)))
