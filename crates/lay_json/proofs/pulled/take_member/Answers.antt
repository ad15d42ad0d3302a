use Rattle.std.proofs.Common.{◌≡◌, false, sym, subst, arith, rules}
use Rattle.serde_json.specs.Data.{object, put}
use Rattle.serde_json.specs.View.{view, members_view}
use Rattle.lay_json.specs.Pulled.{is_asked, SayAlike}
use Rattle.lay_json.proofs.Asked.{on_ok, put_alike, skip_alike}
use Rattle.lay_json.proofs.Pulling.{at_126}
use Rattle.lay_json.proofs.pulled.take_member.Goals as goal

pub returns-then-not-is_asked-clause-value : goal.returns-then-not-is_asked-clause-value
returns-then-not-is_asked-clause-value c =
    let unasked : is_asked c.args.name.now ≡ false = first_of (search rules, grind arith) in
    on_ok c.skip_value.result
    (λ it. (it.0, it.1, λ ms same. skip_alike c.args.name.now it.0 (object (members_view c.args.members.now.entries)) ms unasked same))
    c.skip_value.ensures.value

pub returns-clause-value : goal.returns-clause-value
returns-clause-value c =
    let name = c.args.name.now in
    let d = view c.in_ok-value.value in
    let old = members_view c.args.members.now.entries in
    on_ok c.put_member.result
    (λ putting. (
      d,
      at_126 c.args.cursor.now c.next_value.new.self d c.in_ok-value.ensures.value,
      λ ms same. subst (λ x. SayAlike (object x) (object (put name d ms))) (sym putting) (put_alike name d old ms same),
    ))
    c.put_member.ensures
