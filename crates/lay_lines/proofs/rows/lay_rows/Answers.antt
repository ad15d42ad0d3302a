use Rattle.std.proofs.Common.{◌∙◌, ◌++◌, ◌∷◌, ◌+◌, ◌<◌, Bool, IsFalse, [], length, refl, ap, sym, subst, rules}
use Rattle.lay_units.specs.declared.length.Unit.{Unit}
use Rattle.lay_lines.proofs.ContentLemmas.Outcomes.{at_err}
use Rattle.lay_lines.specs.Meeting.{none_met, state_of}
use Rattle.lay_lines.specs.Rows.{Row, Laid, RowsTo, position_of, line_row}
use Rattle.lay_lines.proofs.Chains.{all_front}
use Rattle.lay_lines.proofs.NoBoxes.{opens_none}
use Rattle.lay_lines.proofs.LineLists.{rows_stopped, row_more, laid_at, same_laid, one_row, listed_more}
use Rattle.lay_lines.proofs.rows.lay_rows.Goals as goal

pub loop-alloc-preserved : goal.loop-alloc-preserved
loop-alloc-preserved c =
    let start = position_of c.args.all.frame c.args.all.top.0 [] c.args.all.stretches.now (none_met c.args.floats.now) in
    let first = laid_at [] c.args.all.frame c.args.all.top.0 [] c.args.all.stretches.now (none_met c.args.floats.now) in
    let so_far = c.loop-alloc.invariant in
    let here = c.loop-alloc.rest in
    let now = state_of c.loop-alloc.floats c.loop-alloc.met in
    let p = position_of here.frame here.top.0 c.loop-alloc.boxes.items c.loop-alloc.rest.stretches.now now in
    let w = c.in_ok-ended.ensures.row in
    let after = state_of c.put_row.new.floats c.put_row.new.met in
    let r = line_row c.in_ok-ended.ended w.0 w.1 after in
    let rows = so_far.1 ++ r ∷ [] in
    let more = row_more so_far.0 first so_far.1 p r so_far.2 w.2 in
    let line = c.behind-rest.result in
    let top = ap (λ (u : Unit). u.0) (sym c.behind-rest.ensures.top) in
    let same = same_laid rows after _ line.frame c.in_ok-ended.ended.to.0 line.top.0 _ c.put_row.new.boxes.items _ c.behind-rest.result.stretches.now
    (sym c.behind-rest.ensures.frame) top (sym c.in_ok-ended.ensures.boxes) (sym c.behind-rest.ensures.stretches) in (
      so_far.0 + 1,
      rows,
      subst (λ (l : Laid). RowsTo (so_far.0 + 1) first l) same more,
      listed_more so_far.1 c.loop-alloc.rows.items r c.in_ok-ended.ended so_far.3 refl ∙ sym c.in_ok-push.ensures.items,
      λ none. opens_none here.frame c.loop-alloc.boxes.items c.put_row.new.boxes.items c.loop-alloc.rest.stretches.now c.behind-rest.result.stretches.now c.in_ok-ended.ended.reach.count
          (so_far.4 (subst (λ (b : Bool). IsFalse b) c.behind-rest.ensures.has_boxes none)) c.in_ok-ended.ensures.boxes c.behind-rest.ensures.stretches,
    )

pub returns-in_err-ended-clause-stopped : goal.returns-in_err-ended-clause-stopped
returns-in_err-ended-clause-stopped c =
    let start = position_of c.args.all.frame c.args.all.top.0 [] c.args.all.stretches.now (none_met c.args.floats.now) in
    let first = laid_at [] c.args.all.frame c.args.all.top.0 [] c.args.all.stretches.now (none_met c.args.floats.now) in
    let so_far = c.loop-alloc.invariant in
    let here = c.loop-alloc.rest in
    let now = state_of c.loop-alloc.floats c.loop-alloc.met in
    let p = position_of here.frame here.top.0 c.loop-alloc.boxes.items c.loop-alloc.rest.stretches.now now in
    let some : 0 < length c.loop-alloc.rest.stretches.now = search rules in
    at_err c.from_residual.result _ (λ laid all. rows_stopped (record { place = c.one_float_place.ensures; room = c.one_room.ensures }) start (laid_at so_far.1 here.frame here.top.0 c.loop-alloc.boxes.items c.loop-alloc.rest.stretches.now now) laid so_far.0 c.put_row.new.floats
    so_far.2 some c.in_err-ended.ensures.stopped all)

pub returns-in_err-push-clause-stopped : goal.returns-in_err-push-clause-stopped
returns-in_err-push-clause-stopped c =
    let start = position_of c.args.all.frame c.args.all.top.0 [] c.args.all.stretches.now (none_met c.args.floats.now) in
    let first = laid_at [] c.args.all.frame c.args.all.top.0 [] c.args.all.stretches.now (none_met c.args.floats.now) in
    let so_far = c.loop-alloc.invariant in
    let here = c.loop-alloc.rest in
    let now = state_of c.loop-alloc.floats c.loop-alloc.met in
    let p = position_of here.frame here.top.0 c.loop-alloc.boxes.items c.loop-alloc.rest.stretches.now now in
    let w = c.in_ok-ended.ensures.row in
    let after = state_of c.put_row.new.floats c.put_row.new.met in
    let r = line_row c.in_ok-ended.ended w.0 w.1 after in
    let some : 0 < length c.loop-alloc.rest.stretches.now = search rules in
    at_err c.from_residual-in_err-push.result _ (λ laid all. rows_stopped (record { place = c.one_float_place.ensures; room = c.one_room.ensures }) start (laid_at so_far.1 here.frame here.top.0 c.loop-alloc.boxes.items c.loop-alloc.rest.stretches.now now) laid so_far.0 c.put_row.new.floats
    so_far.2 some (λ q is. all_front _ _ (ap (λ (x : Row). x.after.floats) (one_row (record { place = c.one_float_place.ensures; room = c.one_room.ensures }) p r q w.2 is))) all)
