-- What a text says whose members and nodes were read one after the other.
use Rattle.std.proofs.Common.{◌≡◌, ℕ, ◌+◌, true, false, List, [], ◌∷◌, ◌++◌, Some, None, codes, is_some, refl, sym, ap, ◌∙◌, subst, arith, Ok}
use Rattle.std.specs.Prelude.{IsUtf8}
use Rattle.json.specs.Token.{Token, key, begin_object, end_object, begin_array, end_array}
use Rattle.json.specs.Lex.{tokens}
use Rattle.json.specs.Json.{read_key, value}
use Rattle.json.proofs.Grammar.{read_key_is}
use Rattle.serde_json.specs.Data.{Data, array, object, Items, item, no_members, put}
use Rattle.serde_json.specs.Find.{get_member}
use Rattle.serde_json.specs.Read.{of_json, converted}
use Rattle.serde_json.proofs.Views.{get_member-put_other}
use Rattle.lay_json.specs.Spans.Readings.{ReadsItems, ReadsMembers, put_all}
use Rattle.lay_json.proofs.SpansLemmas.Whole.{deeper, list_read, members_appended, put_all_also, objects}
use Rattle.lay_run.specs.Runs.{Run}
use Rattle.lay_json.specs.declared.fault.Field.TheVariants.{Sheet}
use Rattle.lay_json.specs.declared.sheet_in.SheetIn.{SheetIn}
use Rattle.lay_json.specs.declared.taken.Taken.{Taken}
use Rattle.lay_json.specs.Fields.{value_in}
use Rattle.lay_json.specs.RunDocument.{viewport_sides}
use Rattle.lay_json.specs.Pulled.{IsTaken, stopped, AreMembers, IsAfter, read_with, SayInput}
use Rattle.lay_json.proofs.Composed.{same_viewport, input_read}
use Rattle.lay_json.proofs.Asked.{read_alike}

abbrev Named : Type 0
Named = List (List ℕ × Data)

-- the members with one more after them
abbrev pub with_one : Named → List ℕ → Data → Named
with_one ms name d = ms ++ (name, d) ∷ []

pub member_more : (old : List Token) (ms : Named) (cur next mid : List Token) (name : List ℕ) (d : Data) → ReadsMembers 126 old ms cur → read_key cur ≡ Some (Some name, next)
    → converted of_json (value 126 next) ≡ Some (d, mid) → ReadsMembers 126 old (with_one ms name d) mid
member_more old ms cur next mid name d was named got =
    members_appended 126 old ms cur ((name, d) ∷ []) mid was (next, mid, read_key_is cur (Some name) next named, got, refl)

pub at_126 : (next mid : List Token) (d : Data) → converted of_json (value 124 next) ≡ Some (d, mid) → converted of_json (value 126 next) ≡ Some (d, mid)
at_126 next mid d got = deeper 124 next mid d got 126 (omega arith)

pub put_more : (ms : Named) (name : List ℕ) (d : Data) → put_all (with_one ms name d) no_members ≡ put name d (put_all ms no_members)
put_more ms name d = put_all_also ms ((name, d) ∷ []) no_members

pub still_none : (ms : Named) (name : List ℕ) (d : Data) → (codes "nodes" ≡ name → ⊥) → get_member (codes "nodes") (put_all ms no_members) ≡ None → get_member (codes "nodes") (put_all (with_one ms name d) no_members) ≡ None
still_none ms name d other none = ap (get_member (codes "nodes")) (put_more ms name d) ∙ get_member-put_other (codes "nodes") name d (put_all ms no_members) other ∙ none

pub stopped_at_nodes : (old : List Token) (ms : Named) (cur new : List Token) (name : List ℕ) → name ≡ codes "nodes" → ReadsMembers 126 old ms cur → read_key cur ≡ Some (Some name, new)
    → ReadsMembers 126 old ms (stopped true new)
stopped_at_nodes old ms cur new name is was named = subst (λ ts. ReadsMembers 126 old ms ts) (read_key_is cur (Some name) new named ∙ ap (λ n. key n ∷ new) is) was

pub stopped_at_end : (old : List Token) (ms : Named) (cur new : List Token) → ReadsMembers 126 old ms cur → read_key cur ≡ Some (None, new) → ReadsMembers 126 old ms (stopped false new)
stopped_at_end old ms cur new was over = subst (λ ts. ReadsMembers 126 old ms ts) (read_key_is cur None new over) was

-- the text of these members before the list of nodes, of these nodes and of these members after them
pub say : (bytes : List ℕ) (t1 t2 ts t3 t4 : List Token) (before later : Data) (first : Data) (rest : Items) (viewport : ℕ × ℕ) (taken : Taken) (input : Run × SheetIn)
    → IsUtf8 bytes → tokens bytes ≡ begin_object ∷ t1 → AreMembers t1 before true t2 → t2 ≡ begin_array ∷ ts → ReadsItems 124 ts (item first rest) (end_array ∷ t3)
    → AreMembers t3 later false t4 → t4 ≡ [] → IsAfter later → viewport_sides before ≡ Ok viewport → IsTaken viewport (is_some (value_in Sheet before)) first rest taken
    → read_with before later taken ≡ Ok input → SayInput bytes input
say bytes t1 t2 ts t3 t4 before later first rest viewport taken input utf8 opened a listed items b ended after sized was said =
    let nodes = ap (λ us. converted of_json (value 126 us)) listed ∙ list_read 126 ts (item first rest) t3 (omega arith) items in
    let behind = subst (λ us. ReadsMembers 126 t3 b.0 (end_object ∷ us)) ended b.1 in
    let members = members_appended 126 t1 a.0 (key (codes "nodes") ∷ t2) ((codes "nodes", array (item first rest)) ∷ b.0) (end_object ∷ []) a.1 (t2, t3, refl, nodes, behind) in
    let whole = objects bytes t1 (a.0 ++ (codes "nodes", array (item first rest)) ∷ b.0) opened members in
    let wide = object (put_all a.0 no_members) in
    let behind_them = object (put_all b.0 no_members) in
    let both = sym (read_alike before wide later behind_them a.2 b.2 taken) ∙ said in
    let kept : IsAfter behind_them = (sym b.2.0 ∙ after.0, sym b.2.1 ∙ after.1, sym b.2.2 ∙ after.2) in
    let reads = input_read a.0 b.0 first rest kept b.3 viewport taken input (same_viewport wide before (sym a.2.0) ∙ sized)
    (subst (λ o. IsTaken viewport (is_some o) first rest taken) a.2.2 was) both in
    (object (put_all (a.0 ++ (codes "nodes", array (item first rest)) ∷ b.0) no_members), (utf8, whole), reads)
