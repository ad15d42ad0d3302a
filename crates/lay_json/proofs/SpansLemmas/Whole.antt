-- A whole list, object and text of values that were read one after the other.
use Rattle.std.proofs.Common.{◌≡◌, ℕ, ◌+◌, ◌-◌, ◌<◌, ◌≤◌, Bool, true, false, List, [], ◌∷◌, ◌++◌, length, Option, Some, None, option_map, refl, sym, ap, ◌∙◌, subst, arith, length-append, bytes_eq}
use Rattle.std.proofs.lemmas.Slice.Eq.{bytes_eq-Decides}
use Rattle.std.proofs.lemmas.Bool.{true≢false}
use Rattle.json.specs.Token.{Token, begin_array, end_array, begin_object, end_object}
use Rattle.json.specs.Lex.{tokens}
use Rattle.json.specs.Json as json
use Rattle.json.specs.Json.{Json, parse_map, after_end_array, items, members, value}
use Rattle.json.specs.Tree.{depth, json_tokens}
use Rattle.json.proofs.Grammar.{value-begin_array, value-begin_object}
use Rattle.json.proofs.Nesting.{value-depth}
use Rattle.json.proofs.Printed.Trees.{value-json_tokens}
use Rattle.json.proofs.Unique.Spelling.{value-json_tokens_back}
use Rattle.serde_json.specs.Data.{Data, array, object, Items, no_items, item, Members, no_members, put}
use Rattle.serde_json.specs.Find.{get_member}
use Rattle.serde_json.specs.Read.{of_json, of_items, of_members, converted, read}
use Rattle.serde_json.proofs.Views.{get_member-put, get_member-put_other}
use Rattle.lay_json.specs.Spans.Readings.{ReadsItems, ReadsMembers, put_all, items_then}
use Rattle.lay_json.specs.Spans.Laws.{ListsAreRead, ObjectsAreRead, or_else, LastNamesStay}
use Rattle.lay_json.proofs.SpansLemmas.Turns.{converted_some, converted-array, converted-object, item_read, items_over, member_read, members_over, whole_read}

-- ---- one value

goes_on : (j : Json) (ts r : List Token) → ts ≡ json_tokens j ++ r → after_end_array ts ≡ None
goes_on j ts r is = ap after_end_array is ∙ of_value j
  where
    of_value : (j : Json) → after_end_array (json_tokens j ++ r) ≡ None
    of_value json.null = refl
    of_value (json.boolean b) = refl
    of_value (json.number s) = refl
    of_value (json.string s) = refl
    of_value (json.array js) = refl
    of_value (json.object ms) = refl

some_tokens : (j : Json) → 1 ≤ length (json_tokens j)
some_tokens json.null = omega arith
some_tokens (json.boolean b) = omega arith
some_tokens (json.number s) = omega arith
some_tokens (json.string s) = omega arith
some_tokens (json.array js) = omega arith
some_tokens (json.object ms) = omega arith

module _ (depth : ℕ) (ts r : List Token) (d : Data) (got : converted of_json (value depth ts) ≡ Some (d, r)) where
  spelled : (j : Json) × (ts ≡ json_tokens j ++ r) × (of_json j ≡ Some d)
  spelled = let j = converted_some of_json (value depth ts) d r got in (j.0, value-json_tokens_back depth ts r j.0 j.1, j.2)

  pub no_end : after_end_array ts ≡ None
  no_end = goes_on spelled.0 ts r spelled.1

  pub shorter : length r < length ts
  shorter = omega (arith, ap length spelled.1, length-append (json_tokens spelled.0) r, some_tokens spelled.0)

  -- what may nest so deep may nest deeper
  pub deeper : (most : ℕ) → depth ≤ most → converted of_json (value most ts) ≡ Some (d, r)
  deeper most le =
      let j = converted_some of_json (value depth ts) d r got in
      let is = value-json_tokens_back depth ts r j.0 j.1 in
      ap (converted of_json) (ap (value most) is ∙ value-json_tokens j.0 most r (omega (arith, value-depth depth ts r j.0 j.1, le))) ∙ ap (option_map (λ b. (b, r))) j.2

-- ---- lists

pub items_appended : (depth : ℕ) (ts : List Token) (ds : Items) (mid : List Token) (es : Items) (rest : List Token) → ReadsItems depth ts ds mid → ReadsItems depth mid es rest → ReadsItems depth ts (items_then ds es) rest
items_appended depth ts no_items mid es rest a b = subst (λ us. ReadsItems depth us es rest) (sym a) b
items_appended depth ts (item d ds) mid es rest a b = (a.0, a.1, items_appended depth a.0 ds mid es rest a.2 b)

-- what follows is no longer than what came before
items_within : (depth : ℕ) (ts : List Token) (ds : Items) (rest : List Token) → ReadsItems depth ts ds rest → length rest ≤ length ts
items_within depth ts no_items rest a = omega (arith, ap length a)
items_within depth ts (item d ds) rest a = omega (arith, shorter depth ts a.0 d a.1, items_within depth a.0 ds rest a.2)

pub items_shorter : (depth : ℕ) (ts : List Token) (first : Data) (ds : Items) (rest : List Token) → ReadsItems depth ts (item first ds) rest → length rest < length ts
items_shorter depth ts first ds rest a = omega (arith, shorter depth ts a.0 first a.1, items_within depth a.0 ds rest a.2)

items_read : (depth n : ℕ) (ts : List Token) (ds : Items) (rest : List Token) → ReadsItems depth ts ds (end_array ∷ rest) → length ts ≤ n → converted of_items (items (value depth) n ts) ≡ Some (ds, rest)
items_read depth n ts no_items rest a enough = items_over (value depth) n ts rest enough (ap after_end_array a)
items_read depth n ts (item d ds) rest a enough =
    let less = shorter depth ts a.0 d a.1 in
    item_read (value depth) n ts a.0 d (omega (arith, less)) (no_end depth ts a.0 d a.1) a.1 ∙ ap (parse_map (item d)) (items_read depth (n - 1) a.0 ds rest a.2 (omega (arith, less)))

items_deeper : (depth most : ℕ) (ts : List Token) (ds : Items) (rest : List Token) → depth ≤ most → ReadsItems depth ts ds rest → ReadsItems most ts ds rest
items_deeper depth most ts no_items rest le a = a
items_deeper depth most ts (item d ds) rest le a = (a.0, deeper depth ts a.0 d a.1 most le, items_deeper depth most a.0 ds rest le a.2)

-- the list of items that were read one after the other
pub list_read : (most : ℕ) (ts : List Token) (ds : Items) (rest : List Token) → 125 ≤ most → ReadsItems 124 ts ds (end_array ∷ rest) → converted of_json (value most (begin_array ∷ ts)) ≡ Some (array ds, rest)
list_read most ts ds rest le a =
    ap (converted of_json) (value-begin_array most ts (omega arith)) ∙ converted-array (items (value (most - 1)) (length ts) ts)
    ∙ ap (parse_map array) (items_read (most - 1) (length ts) ts ds rest (items_deeper 124 (most - 1) ts ds (end_array ∷ rest) (omega arith) a) (omega arith))

-- ---- objects

pub members_appended : (depth : ℕ) (ts : List Token) (ms : List (List ℕ × Data)) (mid : List Token) (ns : List (List ℕ × Data)) (rest : List Token)
    → ReadsMembers depth ts ms mid → ReadsMembers depth mid ns rest → ReadsMembers depth ts (ms ++ ns) rest
members_appended depth ts [] mid ns rest a b = subst (λ us. ReadsMembers depth us ns rest) (sym a) b
members_appended depth ts (m ∷ ms) mid ns rest a b = (a.0, a.1, a.2, a.3, members_appended depth a.1 ms mid ns rest a.4 b)

members_read : (depth n : ℕ) (ts : List Token) (ms : List (List ℕ × Data)) (old : Members) (rest : List Token) → ReadsMembers depth ts ms (end_object ∷ rest) → length ts ≤ n
    → converted (λ x. of_members x old) (members (value depth) n ts) ≡ Some (put_all ms old, rest)
members_read depth n ts [] old rest a enough = members_over (value depth) old n ts rest enough (ap json.read_key a)
members_read depth n ts (m ∷ ms) old rest a enough =
    let less = shorter depth a.0 a.1 m.1 a.3 in
    let longer = ap length a.2 in
    member_read (value depth) old n m.0 ts a.0 a.1 m.1 (omega (arith, less, longer)) (ap json.read_key a.2) a.3
    ∙ members_read depth (n - 1) a.1 ms (put m.0 m.1 old) rest a.4 (omega (arith, less, longer))

-- the object of members that were read one after the other
pub object_read : (ts : List Token) (ms : List (List ℕ × Data)) (rest : List Token) → ReadsMembers 126 ts ms (end_object ∷ rest) → converted of_json (value 127 (begin_object ∷ ts)) ≡ Some (object (put_all ms no_members), rest)
object_read ts ms rest a =
    ap (converted of_json) (value-begin_object 127 ts (omega arith)) ∙ converted-object (members (value 126) (length ts) ts)
    ∙ ap (parse_map object) (members_read 126 (length ts) ts ms no_members rest a (omega arith))

-- the text of a value after which nothing follows
pub text_read : (text : List ℕ) (d : Data) → converted of_json (value 127 (tokens text)) ≡ Some (d, []) → read text ≡ Some d
text_read text d e = whole_read (value 127 (tokens text)) d e

-- ---- the members that are found

put_one : (q k : List ℕ) (d : Data) (old : Members) (b : Bool) → bytes_eq q k ≡ b → get_member q (put k d old) ≡ or_else (get_member q (put k d no_members)) (get_member q old)
put_one q k d old true e =
    let is : q ≡ k = (bytes_eq-Decides q k).0 e in
    subst (λ x. get_member x (put k d old) ≡ or_else (get_member x (put k d no_members)) (get_member x old)) (sym is)
    (get_member-put k d old ∙ sym (ap (λ o. or_else o (get_member k old)) (get_member-put k d no_members)))
put_one q k d old false e =
    let other : q ≡ k → ⊥ = λ is. true≢false (sym ((bytes_eq-Decides q k).1 is) ∙ e) in
    get_member-put_other q k d old other ∙ sym (ap (λ o. or_else o (get_member q old)) (get_member-put_other q k d no_members other))

or_twice : (a b c : Option Data) → or_else a (or_else b c) ≡ or_else (or_else a b) c
or_twice None b c = refl
or_twice (Some d) b c = refl

-- the last of equal names stays, and the others are found where they were
pub found_in : (q : List ℕ) (ms : List (List ℕ × Data)) (old : Members) → get_member q (put_all ms old) ≡ or_else (get_member q (put_all ms no_members)) (get_member q old)
found_in q [] old = refl
found_in q (m ∷ ms) old =
    found_in q ms (put m.0 m.1 old) ∙ ap (or_else (get_member q (put_all ms no_members))) (put_one q m.0 m.1 old _ refl)
    ∙ or_twice (get_member q (put_all ms no_members)) (get_member q (put m.0 m.1 no_members)) (get_member q old)
    ∙ ap (λ o. or_else o (get_member q old)) (sym (found_in q ms (put m.0 m.1 no_members)))

pub put_all_also : (ms ns : List (List ℕ × Data)) (old : Members) → put_all (ms ++ ns) old ≡ put_all ns (put_all ms old)
put_all_also [] ns old = refl
put_all_also (m ∷ ms) ns old = put_all_also ms ns (put m.0 m.1 old)

-- ---- the laws

pub lists : ListsAreRead
lists = list_read

pub objects : ObjectsAreRead
objects text ts ms is a = text_read text (object (put_all ms no_members)) (ap (λ us. converted of_json (value 127 us)) is ∙ object_read ts ms [] a)

pub last_names : LastNamesStay
last_names name ms ns = ap (get_member name) (put_all_also ms ns no_members) ∙ found_in name ns (put_all ms no_members)
