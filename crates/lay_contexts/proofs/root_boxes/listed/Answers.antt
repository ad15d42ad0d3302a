use Rattle.std.proofs.Common.{rules, ◌≡◌, ◌∙◌, ◌∷◌, ◌++◌, ◌+◌, ◌<◌, [], List, ℕ, ap, arith, length, map, refl, slice_index, slice_index_or, take}
use Rattle.std.proofs.lemmas.List.{map-append, take_more}
use Rattle.lay_box_tree.specs.declared.box_tree.BoxNode.{BoxNode}
use Rattle.lay_contexts.specs.FormattingBoxes.{as_member, as_own, at_home_before}
use Rattle.lay_box_tree.specs.BoxColumns.{box_at}
use Rattle.lay_contexts.proofs.AtHome.{place_there}
use Rattle.lay_contexts.proofs.RootBoxes.{parent_within}
use Rattle.lay_contexts.proofs.root_boxes.listed.Goals as goal

pub member-requires-clause-within : goal.member-requires-clause-within
member-requires-clause-within c =
    let boxes = c.args.boxes.now in
    let homes = c.args.parting.now.homes in
    let r = c.args.r in
    let places : slice_index_or c.args.parting.now.at_home r [] ≡ at_home_before homes r (length boxes) = search rules in
    let count = ap length places in
    let there = place_there homes r (length boxes) c.loop-a.a (omega (arith, count, c.count_at_home-count.ensures, c.loop-a-test.true)) in
    let is = c.at_home.ensures ∙ ap (λ (ks : List ℕ). slice_index ks c.loop-a.a) places in
    omega (arith, is, there.before)

pub member-requires-clause-parent : goal.member-requires-clause-parent
member-requires-clause-parent c =
    let boxes = c.args.boxes.now in
    let homes = c.args.parting.now.homes in
    let r = c.args.r in
    let places : slice_index_or c.args.parting.now.at_home r [] ≡ at_home_before homes r (length boxes) = search rules in
    let count = ap length places in
    let there = place_there homes r (length boxes) c.loop-a.a (omega (arith, count, c.count_at_home-count.ensures, c.loop-a-test.true)) in
    let is = c.at_home.ensures ∙ ap (λ (ks : List ℕ). slice_index ks c.loop-a.a) places in
    rw is (parent_within boxes c.requires.are (slice_index (at_home_before homes r (length boxes)) c.loop-a.a) there.before)

-- one more of those at home
one_more : (f : ℕ → BoxNode) (own b : BoxNode) (ks : List ℕ) (items : List BoxNode) (a k : ℕ) → a < length ks → k ≡ slice_index ks a → b ≡ f k → items ≡ own ∷ map f (take a ks) → items ++ b ∷ [] ≡ own ∷ map f (take (a + 1) ks)
one_more f own b ks items a k lt at is before =
    let e = take_more ks a 0 lt in
    rw (before, e, is, at, map-append f (take a ks) (slice_index ks a ∷ [])) refl

pub loop-a-preserved : goal.loop-a-preserved
loop-a-preserved c =
    let boxes = c.args.boxes.now in
    let homes = c.args.parting.now.homes in
    let r = c.args.r in
    let ks : List ℕ = slice_index_or c.args.parting.now.at_home r [] in
    let pushed : c.push-in-loop-a.new.self.items ≡ c.loop-a.items.items ++ c.in_ok-member.member ∷ [] = search rules in
    rw pushed (one_more (as_member boxes homes) (as_own (box_at boxes r)) c.in_ok-member.member ks c.loop-a.items.items c.loop-a.a c.at_home.result
    (omega (arith, c.count_at_home-count.ensures, c.loop-a-test.true)) c.at_home.ensures (c.in_ok-member.ensures {u = tt}) c.loop-a.invariant)
