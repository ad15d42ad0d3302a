use Rattle.std.proofs.Common.{◌≡◌, ◌∙◌, ◌≤◌, ◌<◌, ◌+◌, ◌-◌, length, take, drop, replicate, sym, ap, subst, arith, rules}
use Rattle.std.specs.Prelude.{slice_index_or}
use Rattle.std.proofs.lemmas.Grind.{common_steps}
use Rattle.std.proofs.lemmas.List.{take_all}
use Rattle.lay_json.specs.Styled.NamesByPlace.{no_names, AreNamed}
use Rattle.lay_json.proofs.StyledLemmas.Naming.{named_first, named_next, named_all, take_less, read_last, some_left}
use Rattle.lay_json.proofs.styled.by_place.by_place.Goals as goal

pub loop-done-init : goal.loop-done-init
loop-done-init c =
    let nodes = c.args.doc.now.nodes in
    let listed = c.args.listed.now in
    let cut = take (length listed) c.args.names in
    let count = c.len-count.result in
    let was : c.truncate.new.self.items ≡ cut = first_of (search rules, grind (arith, common_steps)) in
    let is_count : count ≡ length c.truncate.new.self.items = first_of (search rules, grind (arith, common_steps)) in
    let all = is_count ∙ ap length was in
    let few : length cut ≤ count - 0 = omega (arith, all) in
    let fresh : c.in_ok-named.named.items ≡ replicate (length nodes) no_names = first_of (search rules, grind (arith, common_steps)) in
    record {
      left = was ∙ sym (take_all (count - 0) cut few);
      named = named_first nodes listed cut c.in_ok-named.named.items (count - 0) few fresh;
    }

pub take_last-last-requires : goal.take_last-last-requires
take_last-last-requires c =
    let listed = c.args.listed.now in
    let cut = take (length listed) c.args.names in
    let count = c.len-count.result in
    let done = c.loop-done.done in
    let was : c.truncate.new.self.items ≡ cut = first_of (search rules, grind (arith, common_steps)) in
    let is_count : count ≡ length c.truncate.new.self.items = first_of (search rules, grind (arith, common_steps)) in
    let all = is_count ∙ ap length was in
    let here : done < count = first_of (search rules, grind (arith, common_steps)) in
    let last : count - done ≡ (count - (done + 1)) + 1 = omega (arith, here) in
    let within : count - (done + 1) < length cut = omega (arith, here, all) in
    some_left cut c.loop-done.rest.items (count - done) (count - (done + 1)) last within c.loop-done.invariant.left

pub name_one-requires-clause-count : goal.name_one-requires-clause-count
name_one-requires-clause-count c = c.loop-done.invariant.named.count

pub loop-done-preserved : goal.loop-done-preserved
loop-done-preserved c =
    let nodes = c.args.doc.now.nodes in
    let listed = c.args.listed.now in
    let cut = take (length listed) c.args.names in
    let count = c.len-count.result in
    let done = c.loop-done.done in
    let was : c.truncate.new.self.items ≡ cut = first_of (search rules, grind (arith, common_steps)) in
    let is_count : count ≡ length c.truncate.new.self.items = first_of (search rules, grind (arith, common_steps)) in
    let all = is_count ∙ ap length was in
    let here : done < count = first_of (search rules, grind (arith, common_steps)) in
    let back : count - 1 - done ≡ count - (done + 1) = omega (arith, here) in
    let last : count - done ≡ (count - (done + 1)) + 1 = omega (arith, here) in
    let within : count - (done + 1) < length cut = omega (arith, here, all) in
    let took = c.take_last-last.ensures in
    record {
      left = took.rest ∙ take_less cut c.loop-done.rest.items (count - done) (count - (done + 1)) last within c.loop-done.invariant.left;
      named = named_next nodes listed c.args.names c.loop-done.named.items c.name_one.new.named.items (count - done) (count - (done + 1)) c.id_at-id.result c.take_last-last.result last within
          (subst (λ z. c.id_at-id.result ≡ slice_index_or listed z c.id_at-id.result) back c.id_at-id.ensures)
          (read_last cut c.loop-done.rest.items (count - done) (count - (done + 1)) c.take_last-last.result last within c.loop-done.invariant.left took.last)
          c.loop-done.invariant.named c.name_one.ensures.names c.name_one.ensures.count;
    }

pub returns : goal.returns
returns c =
    let nodes = c.args.doc.now.nodes in
    let listed = c.args.listed.now in
    let cut = take (length listed) c.args.names in
    let end : c.len-count.result - c.loop-done.done ≡ 0 = first_of (omega (arith, c.loop-done-test.false, c.loop-done.auto.done-end), search rules, grind (arith, common_steps)) in
    named_all nodes listed c.args.names c.loop-done.named.items
    (subst (λ z. AreNamed nodes (drop z listed) (drop z cut) c.loop-done.named.items) end c.loop-done.invariant.named)
