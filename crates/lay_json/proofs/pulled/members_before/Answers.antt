use Rattle.std.proofs.Common.{◌≡◌, Some, false, option_map, codes, bytes_eq, sym, ap, ◌∙◌, subst, arith, rules}
use Rattle.std.proofs.lemmas.Bool.{true≢false}
use Rattle.std.proofs.lemmas.Slice.Eq.{bytes_eq-Decides}
use Rattle.json.specs.Json.{read_key}
use Rattle.serde_json.specs.Data.{object, no_members}
use Rattle.serde_json.specs.View.{members_view}
use Rattle.lay_json.specs.Spans.Readings.{put_all}
use Rattle.lay_json.specs.Pulled.{SayAlike}
use Rattle.lay_json.proofs.Pulling.{with_one, member_more, put_more, still_none}
use Rattle.lay_json.proofs.pulled.members_before.Goals as goal

pub members-preserved : goal.members-preserved
members-preserved c =
    let was = c.members.invariant in
    let name = c.in-Some.name.now in
    let it = c.in_ok-take_member.ensures.value in
    let next = c.next_name.new.self in
    let named : read_key c.members.cursor ≡ Some (Some name, next) = c.in_ok-name.ensures.value ∙ ap (λ o. Some (option_map (λ x. x.now) o, next)) c.in-Some.is in
    let unlike : bytes_eq name (codes "nodes") ≡ false = first_of (search rules, grind arith) in
    let other : codes "nodes" ≡ name → ⊥ = λ e. true≢false (sym ((bytes_eq-Decides name (codes "nodes")).1 (sym e)) ∙ unlike) in (
      with_one was.0 name it.0,
      member_more c.args.cursor.now was.0 c.members.cursor next c.take_member.new.cursor name it.0 was.1 named it.1,
      subst (λ x. SayAlike (object (members_view c.take_member.new.members.entries)) (object x)) (sym (put_more was.0 name it.0)) (it.2 (put_all was.0 no_members) was.2),
      still_none was.0 name it.0 other was.3,
    )
