use Rattle.std.proofs.Common.{rules, ◌≡◌, ◌∙◌, Bool, ℕ, List, nat_lt, ap, refl, sym}
use Rattle.lay_box_tree.specs.declared.box_tree.BoxNode.{BoxNode}
use Rattle.lay_contexts.specs.Contexts.{boxes_in}
use Rattle.lay_contexts.specs.FormattingBoxes.{boxes_of_root}
use Rattle.lay_contexts.specs.FormattingContextList.{homes_in, inner_numbers, number_at, rank_at, spot_of}
use Rattle.lay_contexts.specs.FormattingContexts.{FormattingContext}
use Rattle.lay_contexts.specs.Partings.{Parting, homes_of}
use Rattle.lay_contexts.proofs.GrowingColumns.{homes_there}
use Rattle.lay_contexts.proofs.formatting_context_list.formatting_context.Goals as goal

abbrev value : Bool → ℕ → ℕ → List BoxNode → List ℕ → FormattingContext
value anonymous outer outer_box boxes inner = record { anonymous = anonymous; outer = outer; outer_box = outer_box; boxes = boxes; inner = inner }

joined : (n : Bool) (o p k l : ℕ) (bs cs : List BoxNode) (is js : List ℕ) → o ≡ p → k ≡ l → bs ≡ cs → is ≡ js → value n o k bs is ≡ value n p l cs js
joined n o p k l bs cs is js e f g h = rw (e, f, g, h) refl

pub returns : goal.returns
returns c =
    let contexts = c.args.contexts.now in
    let ps = c.args.partings.now in
    let homes = homes_of ps in
    let i = c.args.i in
    let r = c.args.r in
    let spot = c.spot-spot.ensures.spot in
    let outer : c.number_at.result ≡ number_at contexts homes (spot_of contexts i r) = rw spot at c.number_at.ensures in
    let outer_box : c.rank_at.result ≡ rank_at homes (spot_of contexts i r) = rw spot at c.rank_at.ensures in
    let here : c.boxes.result.now ≡ boxes_in contexts i = search rules in
    let part : c.parting_at-parting.result.now.homes ≡ homes_in homes i = ap (λ (p : Parting). p.homes) c.parting_at-parting.ensures ∙ sym (homes_there ps i) in
    let boxes : c.in_ok-boxes.boxes ≡ boxes_of_root (boxes_in contexts i) (homes_in homes i) r = c.in_ok-boxes.ensures {u = tt}
    ∙ ap (λ (bs : List BoxNode). boxes_of_root bs c.parting_at-parting.result.now.homes r) here ∙ ap (λ (hs : List ℕ). boxes_of_root (boxes_in contexts i) hs r) part in
    let inner : c.in_ok-inner.inner.value.items ≡ inner_numbers contexts homes i r = rw (c.in_ok-inner.ensures {u = tt}).ok (c.in_ok-inner_numbers.ensures {u = tt}) in
    joined (nat_lt 0 r) c.number_at.result (number_at contexts homes (spot_of contexts i r)) c.rank_at.result (rank_at homes (spot_of contexts i r)) c.in_ok-boxes.boxes (boxes_of_root (boxes_in contexts i) (homes_in homes i) r)
    c.in_ok-inner.inner.value.items (inner_numbers contexts homes i r) outer outer_box boxes inner
