use Rattle.std.proofs.Common.{◌≡◌, ◌<◌, ◌+◌, ◌∙◌, ℕ, None, ap, sym, subst, arith, length, get_or}
use Rattle.std.proofs.lemmas.List.{get_or_default}
use Rattle.lay_doc.specs.Document.{root_document}
use Rattle.lay_doc.specs.Edits.{root_fault}
use Rattle.lay_run.specs.declared.gathered.listing.Listed.{Listed}
use Rattle.lay_run.specs.Gathered.ListedDocuments.{listed_document}
use Rattle.lay_run.specs.Gathered.Standing.{HasPut}
use Rattle.lay_run.proofs.GatheredLemmas.Roots.{listed_width, listed_height}
use Rattle.lay_run.proofs.GatheredLemmas.Walks.{root_fits, root_put, put_first, put_more, may_push, pushed}
use Rattle.lay_run.proofs.gathered.walk.in_order.Goals as goal

pub root_of-requires-clause-wide : goal.root_of-requires-clause-wide
root_of-requires-clause-wide c = let is = listed_width c.args.width c.args.height c.args.listing.items.items in omega (arith, is, c.requires.document.wide)

pub root_of-requires-clause-narrow : goal.root_of-requires-clause-narrow
root_of-requires-clause-narrow c = let is = listed_width c.args.width c.args.height c.args.listing.items.items in omega (arith, is, c.requires.document.narrow)

pub root_of-requires-clause-high : goal.root_of-requires-clause-high
root_of-requires-clause-high c = let is = listed_height c.args.width c.args.height c.args.listing.items.items in omega (arith, is, c.requires.document.high)

pub root_of-requires-clause-low : goal.root_of-requires-clause-low
root_of-requires-clause-low c = let is = listed_height c.args.width c.args.height c.args.listing.items.items in omega (arith, is, c.requires.document.low)

pub root_of-requires-clause-root : goal.root_of-requires-clause-root
root_of-requires-clause-root c =
    let items = c.args.listing.items.items in
    let root = c.taken-root.result in
    subst (λ (y : Listed). root_fault y.new ≡ None) (sym (c.taken-root.ensures.value root)) (root_fits (listed_document c.args.width c.args.height items) items c.args.listing.nexts.items c.requires root)

pub loop-place-init : goal.loop-place-init
loop-place-init c =
    let items = c.args.listing.items.items in
    let d = listed_document c.args.width c.args.height items in
    let root = c.taken-root.result in
    let width = listed_width c.args.width c.args.height items in
    let height = listed_height c.args.width c.args.height items in
    let first = c.in_ok-doc.ensures ∙ ap (λ (w : ℕ). root_document w c.args.height root.new) (sym width) ∙ ap (λ (h : ℕ). root_document d.width h root.new) (sym height)
    ∙ ap (λ (y : Listed). root_document d.width d.height y.new) (c.taken-root.ensures.value root) ∙ root_put d items c.args.listing.nexts.items c.requires root in
    put_first d items c.args.listing.nexts.items c.requires c.in_ok-doc.doc c.taken-root.new.items.items first c.taken-root.ensures.count c.taken-root.ensures.rest

pub push_last-requires : goal.push_last-requires
push_last-requires c =
    let items = c.args.listing.items.items in
    let d = listed_document c.args.width c.args.height items in
    let ok = c.taken-root.new.items.ok in
    let lt : c.loop-place._place < length d.nodes = omega (arith, ok, c.taken-root.ensures.count, c.requires.item_count) in
    let taken = c.taken-listed.result in
    let h = c.loop-place.invariant in
    let next = c.index-at.ensures ∙ get_or_default c.args.listing.nexts.items c.loop-place.at c.index-at.result.now 0 (omega (arith, h.within, h.stands.next_count, h.stands.item_count)) in
    may_push d items c.args.listing.nexts.items c.loop-place.doc c.loop-place.items.items c.loop-place.at c.loop-place._place c.loop-place.invariant lt taken
    (λ x. subst (λ (k : ℕ). taken ≡ get_or c.loop-place.items.items k x) next (c.taken-listed.ensures.value x))

pub loop-place-preserved : goal.loop-place-preserved
loop-place-preserved c =
    let items = c.args.listing.items.items in
    let d = listed_document c.args.width c.args.height items in
    let nexts = c.args.listing.nexts.items in
    let left = c.loop-place.items.items in
    let at = c.loop-place.at in
    let h = c.loop-place.invariant in
    let ok = c.taken-root.new.items.ok in
    let lt : c.loop-place._place < length d.nodes = omega (arith, ok, c.taken-root.ensures.count, c.requires.item_count) in
    let taken = c.taken-listed.result in
    let next = c.index-at.ensures ∙ get_or_default nexts at c.index-at.result.now 0 (omega (arith, h.within, h.stands.next_count, h.stands.item_count)) in
    let put = (c.in_ok-push_last.ensures {u = tt}).ok ∙ pushed d items nexts c.loop-place.doc left at c.loop-place._place h lt taken
    (λ x. subst (λ (k : ℕ). taken ≡ get_or left k x) next (c.taken-listed.ensures.value x)) in
    let more = put_more d items nexts c.loop-place.doc left at c.loop-place._place h lt c.push_last.new.self c.taken-listed.new.items.items put c.taken-listed.ensures.count
    (λ i x other. c.taken-listed.ensures.rest i x (λ q. other (q ∙ next))) in
    subst (λ (k : ℕ). HasPut d items nexts c.push_last.new.self c.taken-listed.new.items.items k (c.loop-place._place + 1)) (sym next) more
