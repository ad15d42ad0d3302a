use Rattle.std.proofs.Common.{◌≡◌, List, ℕ, None, codes, length}
use Rattle.serde_json.specs.Data.{Data, object, no_members}
use Rattle.serde_json.specs.Find.{get_member}
use Rattle.serde_json.specs.View.{members_view}
use Rattle.lay_json.specs.Spans.Readings.{ReadsMembers, put_all}
use Rattle.lay_json.specs.Pulled.{SayAlike}
use Rattle.lay_json.proofs.pulled.members_before.Given as goal

abbrev pub invariant-members : goal.invariant-members
invariant-members l =
    (ms : List (List ℕ × Data)) × ReadsMembers 126 l.fn.cursor ms l.cursor × SayAlike (object (members_view l.members.entries)) (object (put_all ms no_members))
    × (get_member (codes "nodes") (put_all ms no_members) ≡ None)

abbrev pub decreases-members : goal.decreases-members
decreases-members l = length l.cursor
