use Rattle.std.proofs.Common.{rules, ◌≡◌, ◌∙◌, ◌<◌, ◌++◌, ◌∷◌, [], ℕ, List, ap, arith, length, slice_index, sym}
use Rattle.lay_contexts.specs.ContextTree.{parent_of}
use Rattle.lay_after_edits.proofs.ContextsLemmas.NearSteps.{near-above, near-own, no-place, passed-on, passed-own}
use Rattle.lay_after_edits.proofs.contexts.near.push_near.Goals as goal

pub returns-then-is_place : goal.returns-then-is_place
returns-then-is_place c =
    let nodes = c.args.of.now.doc.now.nodes in
    let styles = c.args.of.now.was.now in
    let places = c.args.places.now in
    let near = c.args.near.now.items in
    let k : c.len-k.result ≡ length near = search rules in
    let at = c.is_place.ensures.yes c.if-is_place.true in
    let here = at.1 ∙ k in
    let pushed : c.push.new.self.items ≡ near ++ c.args.next ∷ [] = (c.in_ok-push.ensures {u = tt}).items in
    record {
      passed = passed-own nodes styles places c.requires.places c.args.next (length near) c.requires.known.passed at.0 here;
      near_are = rw pushed (near-own nodes styles places c.requires.places near c.args.next (length near) c.requires.known.near_are at.0 here);
    }

pub returns : goal.returns
returns c =
    let nodes = c.args.of.now.doc.now.nodes in
    let styles = c.args.of.now.was.now in
    let places = c.args.places.now in
    let near = c.args.near.now.items in
    let k : c.len-k.result ≡ length near = search rules in
    let other : c.args.next < length places → slice_index places c.args.next ≡ length near → ⊥ = λ lt at. c.is_place.ensures.no c.if-is_place.false lt (at ∙ sym k) in
    let up-is : 0 < length near → c.near_above-up.result ≡ slice_index near (parent_of nodes (length near)) =
    λ positive. c.near_above-up.ensures (omega (arith, positive, k))
    ∙ (ap (λ (xs : List ℕ). slice_index xs (parent_of nodes c.len-k.result)) c.deref.ensures.value ∙ ap (λ (m : ℕ). slice_index near (parent_of nodes m)) k) in
    let pushed : c.push-2.new.self.items ≡ near ++ c.near_above-up.result ∷ [] = (c.in_ok-push-2.ensures {u = tt}).items in
    record {
      passed = passed-on nodes styles places c.requires.places c.args.next (length near) c.requires.known.passed other;
      near_are = rw pushed (near-above nodes styles places c.requires.places near c.near_above-up.result (length near) c.nodes.ensures.valid.tree c.requires.here c.requires.known.near_are
          (no-place nodes styles places c.requires.places c.args.next (length near) c.requires.known.passed other) up-is);
    }
