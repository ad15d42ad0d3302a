use Rattle.std.proofs.Common.{rules, ◌≡◌, ◌∙◌, ◌&&◌, ◌||◌, ap, arith, slice_index, slice_index_or, ℕ, Bool, None, not}
use Rattle.std.specs.Prelude.{◌==◌, is_some}
use Rattle.lay_doc.specs.Document.{parents_of}
use Rattle.lay_hit.specs.declared.kinds.PaintKind.{PaintKind}
use Rattle.lay_hit.specs.declared.waiting.Waiting.{Waiting}
use Rattle.lay_hit.specs.PaintKinds.{forms_group, is_stacking, kind_at}
use Rattle.lay_hit.specs.Fronts.{all_passed, both_waiting, front_in}
use Rattle.lay_hit.specs.Ranks.{is_of_owner}
use Rattle.lay_hit.specs.Questions.{page, seen_in}
use Rattle.lay_hit.specs.Waiting.{nobody}
use Rattle.lay_hit.proofs.Passing.{here_group_within, here_owner_within, outer_group_within, outer_owner_within, passed_within, seen_is}
use Rattle.lay_hit.proofs.fronts.passed_on.Goals as goal

pub both_waiting-requires-clause-first_group : goal.both_waiting-requires-clause-first_group
both_waiting-requires-clause-first_group c =
    let q = c.args.q.now in
    let parent : c.parent_at.result ≡ slice_index (parents_of q.doc.now.nodes) c.args.k = search rules in
    let e = ap (λ (w : Waiting). w.group) (c.waiting_at-outer.ensures ∙ ap (λ (n : ℕ). slice_index_or c.args.fronts.now n nobody) parent) in
    let l = outer_group_within q c.requires.valid c.args.fronts.now c.args.k c.requires.inner c.requires.place c.requires.before in
    omega (arith, e, l)

pub both_waiting-requires-clause-first_owner : goal.both_waiting-requires-clause-first_owner
both_waiting-requires-clause-first_owner c =
    let q = c.args.q.now in
    let parent : c.parent_at.result ≡ slice_index (parents_of q.doc.now.nodes) c.args.k = search rules in
    let e = ap (λ (w : Waiting). w.owner) (c.waiting_at-outer.ensures ∙ ap (λ (n : ℕ). slice_index_or c.args.fronts.now n nobody) parent) in
    let l = outer_owner_within q c.requires.valid c.args.fronts.now c.args.k c.requires.inner c.requires.place c.requires.before in
    omega (arith, e, l)

pub both_waiting-requires-clause-group : goal.both_waiting-requires-clause-group
both_waiting-requires-clause-group c =
    let q = c.args.q.now in
    let here = ap (λ (w : Waiting). w.group) c.waiting_at-here.ensures in
    let l = here_group_within q c.requires.valid c.args.fronts.now c.args.k c.requires.inner c.requires.place c.requires.before in
    let e = ap (λ (w : Waiting). w.group) c.all_passed-passed.ensures in
    let m = passed_within (page q) _ (forms_group c.kind_at-kind.result) c.waiting_at-here.result.group (c.is_seen-is_seen.result && not (is_of_owner c.kind_at-kind.result)) c.args.k (omega (arith, here, l)) c.requires.place in
    rw e m

pub both_waiting-requires-clause-owner : goal.both_waiting-requires-clause-owner
both_waiting-requires-clause-owner c =
    let q = c.args.q.now in
    let here = ap (λ (w : Waiting). w.owner) c.waiting_at-here.ensures in
    let l = here_owner_within q c.requires.valid c.args.fronts.now c.args.k c.requires.inner c.requires.place c.requires.before in
    let e = ap (λ (w : Waiting). w.owner) c.all_passed-passed.ensures in
    let m = passed_within (page q) _ (is_stacking c.kind_at-kind.result) c.waiting_at-here.result.owner (c.is_seen-is_seen.result && is_of_owner c.kind_at-kind.result) c.args.k (omega (arith, here, l)) c.requires.place in
    rw e m

pub returns : goal.returns
returns c =
    let q = c.args.q.now in
    let fronts = c.args.fronts.now in
    let parent : c.parent_at.result ≡ slice_index (parents_of q.doc.now.nodes) c.args.k = search rules in
    let outer = c.waiting_at-outer.ensures ∙ ap (λ (n : ℕ). slice_index_or fronts n nobody) parent in
    let kind : c.kind_at-kind.result ≡ kind_at q.doc.now.nodes q.styles.now c.args.k = search rules in
    let seen : c.is_seen-is_seen.result ≡ is_some (seen_in q c.args.k) =
    c.is_seen-is_seen.ensures
    ∙ ap (λ (k : PaintKind). is_some (slice_index_or c.args.noted.now c.args.k None) || not (front_in (page q) k c.waiting_at-here.result == 0)) kind
    ∙ ap (λ (w : Waiting). is_some (slice_index_or c.args.noted.now c.args.k None) || not (front_in (page q) (kind_at q.doc.now.nodes q.styles.now c.args.k) w == 0)) c.waiting_at-here.ensures
    ∙ seen_is q c.requires.valid fronts c.args.k c.requires.inner c.requires.place c.requires.before c.args.noted.now c.requires.noted in
    c.both_waiting.ensures
    ∙ ap (λ (w : Waiting). both_waiting (page q) w c.all_passed-passed.result) outer
    ∙ ap (both_waiting (page q) (slice_index_or fronts (slice_index (parents_of q.doc.now.nodes) c.args.k) nobody))
    (c.all_passed-passed.ensures
    ∙ ap (λ (k : PaintKind). all_passed (page q) k c.waiting_at-here.result c.is_seen-is_seen.result c.args.k) kind
    ∙ ap (λ (w : Waiting). all_passed (page q) (kind_at q.doc.now.nodes q.styles.now c.args.k) w c.is_seen-is_seen.result c.args.k) c.waiting_at-here.ensures
    ∙ ap (λ (b : Bool). all_passed (page q) (kind_at q.doc.now.nodes q.styles.now c.args.k) (slice_index_or fronts c.args.k nobody) b c.args.k) seen)
