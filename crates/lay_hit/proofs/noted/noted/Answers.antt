use Rattle.std.proofs.Common.{◌≡◌, ◌++◌, ◌∷◌, [], ◌+◌, List, take, ap, ◌∙◌, sym, subst, append-nil, Some, slice_get}
use Rattle.std.proofs.lemmas.Grind.{flat_map-append}
use Rattle.std.proofs.lemmas.Option.{slice_get-get_or}
use Rattle.lay_frag.specs.declared.frag.Frag.{Frag}
use Rattle.lay_frag.specs.Pieces.{page_pieces, frags_of}
use Rattle.lay_hit.proofs.Cited.{take_one_more}
use Rattle.lay_hit.specs.Questions.{AreNoted}
use Rattle.lay_hit.proofs.noted.noted.Goals as goal

pub loop-placed-preserved : goal.loop-placed-preserved
loop-placed-preserved c =
    let tree = c.args.q.now.tree.now in
    let j = c.loop-placed.placed-index in
    let item = rw c.contexts-placed-items.ensures.contexts at c.placed-item.is in
    let test = rw c.contexts-placed-items.ensures.contexts at c.loop-placed-test.true in
    let here : slice_get tree j ≡ Some c.placed-item.result = slice_get-get_or tree j c.placed-item.result test ∙ ap Some (sym item) in
    let more : frags_of (take (j + 1) tree) ≡ frags_of (take j tree) ++ page_pieces c.placed-item.result =
    ap frags_of (take_one_more tree j c.placed-item.result here) ∙ flat_map-append page_pieces (take j tree) (c.placed-item.result ∷ []) ∙ ap (λ (gs : List Frag). frags_of (take j tree) ++ gs) (append-nil (page_pieces c.placed-item.result)) in
    subst (λ (gs : List Frag). AreNoted c.args.q.now gs c.note_context.new.noted) (sym more) ((c.in_ok-note_context.ensures {u = tt}).noted (frags_of (take j tree)) c.loop-placed.invariant)
