use Rattle.std.proofs.Common.{◌≡◌, ◌++◌, ◌∷◌, [], None, arith, rules}
use Rattle.std.proofs.lemmas.List.{length_push}
use Rattle.lay_abspos.specs.Relative.FormerParents.{IsFormerParent}
use Rattle.lay_abspos.proofs.RelativeLemmas.Ends.{each-longer}
use Rattle.lay_abspos.proofs.relative.former_parent.parents_of.Goals as goal

pub loop-k-preserved : goal.loop-k-preserved
loop-k-preserved c =
    let boxes = c.as_slice-boxes.result.now in
    let ps = c.loop-k.parents.items in
    let parent = c.former_parent-parent.result in
    let longer : c.push.new.self.items ≡ ps ++ parent ∷ [] = search rules in
    let n = length_push ps parent in
    let count = c.loop-k.invariant.count in
    rw longer (record {
      count = omega (arith, n, count);
      each = each-longer (IsFormerParent boxes) ps parent None c.loop-k.k count c.loop-k.invariant.each c.former_parent-parent.ensures.parent;
      parts = c.in_ok-note_open.ensures;
    })
